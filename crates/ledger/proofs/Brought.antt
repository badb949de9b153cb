-- What a section brings to the table that it is entered into: its datagram's start and bytes, and an end inside the table.
use Rattle.std.proofs.Common.{◌≡◌, ℕ, zero, suc, ◌+◌, ◌<◌, ◌≤◌, Bool, true, false, ◌&&◌, ltb, cond, List, [], ◌∷◌, length, Option, Some, None, inl, inr, ◌⊎◌, refl, sym, ◌∙◌, subst, arith}
use Rattle.std.specs.List.{Contains}
use Rattle.std.proofs.Math.Nat.{mul-le-mul_right}
use Rattle.std.proofs.lemmas.Bool.{and_parts, and_from, or_cases, or_left, or_right, both_ways, eq-eqb, eqb-true, le-leb, lt-ltb, ltb-false}
use Rattle.std.proofs.lemmas.Option.{same_Some}
use Rattle.geometry.specs.Cells.{table_size}
use Rattle.geometry.specs.Ends.{limit_of}
use Rattle.refusal.proofs.Order.{when_none}
use Rattle.section.specs.declared.reading.Header.{Header}
use Rattle.section.specs.declared.reading.Header.TheVariants.{Datagram, Check}
use Rattle.frame.specs.Fields.{Fields, header_of, fields_of}
use Rattle.frame.specs.Frames.{Frame, HasDatagram}
use Rattle.frame.specs.Sent.{ComesFrom, with_datagram, with_column}
use Rattle.frame.proofs.SectionsRead.{SameHeader, laid_out_reads}
use Rattle.table.specs.Tables.{Table, limit}
use Rattle.table.specs.Telling.{is_datagram, first_cell_of, first_cell, carries, payload_end, told_end_of, told_end, pads, told_now}
use Rattle.table.specs.Rules.{limit_rule}
use Rattle.table.specs.Taking.{Entered}
use Rattle.ledger.specs.Found.{Has}

-- a datagram of the frame begins there
abbrev pub Begins : Frame → ℕ → Type 0
Begins frame a = (d : List ℕ) × HasDatagram frame a d

-- a table has a datagram that a section with these fields carried: its start, and each of its bytes
pub record HasCarried (t : Table) (f : Fields) : Type 0 where
  pub start : t.starts f.timing.address ≡ true
  pub bytes : (k : ℕ) → k < length f.payload → Has t (f.timing.address + k)

-- it has all that these sections carried
abbrev pub HasAll : List (List ℕ) → Table → Type 0
HasAll sections t = (section : List ℕ) → Contains sections section → is_datagram (fields_of section).header ≡ true → HasCarried t (fields_of section)

pub has_none : (t : Table) → HasAll [] t
has_none t section (k, below, is) datagram = absurd (omega arith)

pub has_more : (section : List ℕ) (sections : List (List ℕ)) (t : Table) → (is_datagram (fields_of section).header ≡ true → HasCarried t (fields_of section)) → HasAll sections t
    → HasAll (section ∷ sections) t
has_more section sections t own others s (zero, below, is) =
    subst (λ x. is_datagram (fields_of x).header ≡ true → HasCarried t (fields_of x)) is own
has_more section sections t own others s (suc k, below, is) = others s (k, omega arith, is)

-- ---- the end

limit_inside : (R : ℕ) (end padding : Option ℕ) → ((e : ℕ) → end ≡ Some e → e ≤ table_size R) → limit_of R end padding ≤ table_size R
limit_inside R (Some e) padding fits = fits e refl
limit_inside R None (Some p) fits = mul-le-mul_right R (omega arith)
limit_inside R None None fits = omega arith

end_inside : (R : ℕ) (end padding : Option ℕ) → limit_of R end padding ≤ table_size R → (e : ℕ) → end ≡ Some e → e ≤ table_size R
end_inside R (Some x) padding fits e is = omega (arith, same_Some x e is)
end_inside R None padding fits e is = cc

-- a datagram that does not pass the limit tells no end above it
told_below : (h : Header) (last : Bool) (end limit e : ℕ) → (is_datagram h && ltb limit end) ≡ false → told_end_of h last end ≡ Some e → e ≤ limit
told_below (Datagram h) true end limit e within is = omega (arith, ltb-false limit end within, same_Some end e is)
told_below (Datagram h) false end limit e within is = cc
told_below (Check h) last end limit e within is = cc

told_or_before : (now before : Option ℕ) (x : ℕ) → told_now now before ≡ Some x → (now ≡ Some x) ⊎ (before ≡ Some x)
told_or_before (Some y) before x is = inl is
told_or_before None before x is = inr is

-- ---- the datagram

-- the first cell of a datagram is its address
at_address : (R : ℕ) (h : Header) (address : ℕ) → is_datagram h ≡ true → first_cell_of R h address ≡ address
at_address R (Datagram h) address is = refl
at_address R (Check h) address is = cc

-- that of a section that comes from a frame is the frame's
no_datagram : (h g : Header) → SameHeader h g → is_datagram h ≡ false → is_datagram g ≡ false
no_datagram (Datagram h) g same not = cc
no_datagram (Check h) (Datagram g) same not = absurd same
no_datagram (Check h) (Check g) same not = refl

pub own_datagram : (m R : ℕ) (frame : Frame) (s : List ℕ) → m ≤ 64 → ComesFrom R m frame s → is_datagram (header_of s) ≡ true
    → HasDatagram frame (fields_of s).timing.address (fields_of s).payload
own_datagram m R frame s few (with_datagram f h laid_out is has last) datagram =
    let read = laid_out_reads R m few s f laid_out in rw (← read.timing, ← read.payload) at has
own_datagram m R frame s few (with_column f h laid_out is ends column) datagram =
    let read = laid_out_reads R m few s f laid_out in
    absurd (both_ways _ (no_datagram f.header (header_of s) read.header (rw is)) datagram)

-- ---- what is entered

-- a cell of the section is known then, and any other if it was before
known_then : (padded carried : Bool) (x : ℕ) (before : Option ℕ) → (carried ≡ false → (b : ℕ) × (before ≡ Some b))
    → (b : ℕ) × (cond padded (Some 0) (cond carried (Some x) before) ≡ Some b)
known_then true carried x before known = (0, refl)
known_then false true x before known = (x, refl)
known_then false false x before known = known refl

module _ (t : Table) (f : Fields) (after : Table) (entered : Entered t f after) where
  known_after : (i : ℕ) → (carries t.rows f i ≡ false → Has t i) → Has after i
  known_after i known =
      let now = known_then (pads t.rows f i) (carries t.rows f i) _ (t.at i) known in (now.0, entered.at i ∙ now.1)

  -- what the table had before it has still
  pub has_still : (g : Fields) → HasCarried t g → HasCarried after g
  has_still g has = record {
    start = entered.starts g.timing.address ∙ or_right _ _ has.start;
    bytes = λ k below. known_after (g.timing.address + k) (λ _. has.bytes k below);
  }

  pub has_own : is_datagram f.header ≡ true → HasCarried after f
  has_own datagram =
      let a = f.timing.address in
      let first : first_cell t.rows f ≡ a = at_address t.rows f.header a datagram in
      let carried : (k : ℕ) → k < length f.payload → carries t.rows f (a + k) ≡ true = λ k below.
      and_from _ _ (le-leb (first_cell t.rows f) (a + k) (omega (arith, first))) (lt-ltb (a + k) (first_cell t.rows f + length f.payload) (omega (arith, first, below))) in
      record {
        start = entered.starts a ∙ or_left _ _ (and_from _ _ datagram (eq-eqb a (first_cell t.rows f) (sym first)));
        bytes = λ k below. known_after (a + k) (λ not. absurd (both_ways (carries t.rows f (a + k)) not (carried k below)));
      }

  -- its starts are still those of a frame that it comes from
  pub begins_still : (frame : Frame) → (is_datagram f.header ≡ true → HasDatagram frame f.timing.address f.payload)
      → ((a : ℕ) → t.starts a ≡ true → Begins frame a) → (a : ℕ) → after.starts a ≡ true → Begins frame a
  begins_still frame own before a is =
      elim (or_cases _ _ (sym (entered.starts a) ∙ is)) [
        | inl first ↦
            let parts = and_parts (is_datagram f.header) _ first in
            let there : a ≡ f.timing.address = eqb-true a (first_cell t.rows f) parts.1 ∙ at_address t.rows f.header f.timing.address parts.0 in
            (f.payload, rw there (own parts.0))
        | inr was ↦ before a was
      ]

  -- and its limit is inside it, where 12 did not refuse the section
  pub inside_still : limit_rule (limit t) f ≡ None → limit t ≤ table_size t.rows → limit after ≤ table_size after.rows
  inside_still within fits =
      let below = told_below f.header f.timing.table_boundary (payload_end f) (limit t) in
      rw entered.rows
      (limit_inside t.rows after.end after.padding (λ e is.
      elim (told_or_before (told_end f) t.end e (sym entered.end ∙ is)) [
        | inl now ↦ omega (arith, below e (when_none _ _ within) now, fits)
        | inr before ↦ end_inside t.rows t.end t.padding fits e before
      ]))
