-- The payload of an MPE-FEC section that was read lies inside the buffers.
use Rattle.std.proofs.Common.{◌≡◌, ℕ, ◌+◌, ◌*◌, ◌<◌, ◌≤◌, false, ltb, leb, List, length, None, Ok, Err, Result, ap, ◌∙◌, arith}
use Rattle.std.proofs.lemmas.Bool.{eqb-true, ltb-false, leb-false}
use Rattle.std.proofs.Math.Nat.{mul-le-mul_right, add-mul}
use Rattle.octets.specs.Octets.{byte}
use Rattle.geometry.specs.Cells.{frame_size}
use Rattle.refusal.specs.declared.Refusal.TheVariants.{Field}
use Rattle.refusal.specs.declared.Refusal.{Refusal}
use Rattle.refusal.specs.Rules.{Passes, Answers, when}
use Rattle.refusal.proofs.Order.{when_none, when_not_none, or_else_none}
use Rattle.section.specs.declared.reading.Header.{Header}
use Rattle.section.specs.declared.reading.Header.TheVariants.{Datagram, Check}
use Rattle.section.specs.declared.reading.Section.{Section}
use Rattle.section.specs.declared.timing.RealTime.{RealTime}
use Rattle.section.specs.Rules.{read_rules, column_rule}
use Rattle.section.specs.Sections.{payload_of, timing_of, SectionOf, HeaderIn}
use Rattle.section.proofs.Passed.{passed}
use Rattle.frame.specs.Fields.{fields, fields_of}
use Rattle.frame.proofs.SectionsRead.{fields_read}
use Rattle.table.specs.Telling.{is_datagram, first_cell_of}
use Rattle.receiver.specs.Parts.{ColumnInside}

-- a column whose number is below m, of R cells, ends with the last column or before
column_ends : (R m number address size : ℕ) → number < m → address ≡ number * R → size ≡ R → 191 * R + address + size ≤ (191 + m) * R
column_ends R m number address size below at is =
    let next : number + 1 ≤ m = omega arith in
    omega (arith, mul-le-mul_right R next, add-mul 191 m R, add-mul number 1 R, at, is)

pub record ColumnPassed (R m number address size : ℕ) : Type 0 where
  pub below : number < m
  pub at : address ≡ number * R
  pub size_is : size ≡ R

-- what the rules of an MPE-FEC section's fields leave
pub column_passed : (R m p s last address size : ℕ) → column_rule R m p s last address size ≡ None → ColumnPassed R m s address size
column_passed R m p s last address size none =
    let fields = or_else_none _ _ none in
    let after_p = or_else_none (when (ltb 190 p) (Field 3)) _ fields.0 in
    let after_s = or_else_none (when (ltb last s) (Field 6)) _ after_p.1 in
    let after_last = or_else_none (when (leb m last) (Field 7)) _ after_s.1 in
    let order = ltb-false last s (when_none _ _ after_s.0) in
    let few = leb-false m last (when_none _ _ after_last.0) in
    record {
      below = omega (arith, order, few);
      at = eqb-true _ _ (when_not_none _ _ after_last.1);
      size_is = eqb-true _ _ (when_not_none _ _ fields.1);
    }

-- by the header of a section that was read
inside_by : (R m : ℕ) (s : List ℕ) (h : Header) (address size : ℕ) → Passes (read_rules R m s) → HeaderIn s h → address ≡ (timing_of s).address → size ≡ length (payload_of s)
    → is_datagram h ≡ false → first_cell_of R h address + size ≤ frame_size m R
inside_by R m s (Datagram h) address size passes in_s at is not = cc
inside_by R m s (Check h) address size passes in_s at is not =
    let c = column_passed R m (byte s 3) (byte s 6) (byte s 7) (timing_of s).address (length (payload_of s)) ((passed R m s passes).column in_s.0) in
    column_ends R m (byte s 6) address size c.below (at ∙ c.at) (is ∙ c.size_is)

column_inside : (R m : ℕ) (s : List ℕ) (x : Section) → Passes (read_rules R m s) → SectionOf s x → ColumnInside R (fields x) (frame_size m R)
column_inside R m s x passes of =
    inside_by R m s x.header x.timing.address (length x.payload.now) passes of.header (ap (λ (t : RealTime). t.address) of.timing) (ap length of.payload)

-- what reading answers, with that
pub read_and_inside : (R m rows : ℕ) (s : List ℕ) (r : Result Section Refusal) → rows ≡ R → Answers (read_rules rows m s) (SectionOf s) r
    → Answers (read_rules R m s) (λ x. (fields x ≡ fields_of s) × ColumnInside R (fields x) (frame_size m R)) r
read_and_inside R m rows s (Ok x) is answer =
    let answer' : Answers (read_rules R m s) (SectionOf s) (Ok x) = rw is at answer in
    (answer'.0, (fields_read s x answer'.1, column_inside R m s x answer'.0 answer'.1))
read_and_inside R m rows s (Err e) is answer = rw is at answer
