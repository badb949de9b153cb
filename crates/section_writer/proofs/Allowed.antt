-- What the rules of writing leave of the fields that they let pass.
use Rattle.std.proofs.Common.{◌≡◌, ℕ, ◌*◌, ◌^◌, ◌<◌, ◌≤◌, Bool, true, not, ◌&&◌, eqb, ltb, leb, List, length, None, arith}
use Rattle.std.proofs.lemmas.Bool.{and_parts, leb-true, ltb-true, leb-false, ltb-false}
use Rattle.refusal.specs.declared.Refusal.TheVariants.{Field, Unwritable}
use Rattle.refusal.specs.Rules.{when, or_else, Passes}
use Rattle.refusal.proofs.Order.{when_none, when_not_none, or_else_none}
use Rattle.section.specs.declared.reading.Header.{Header}
use Rattle.section.specs.declared.reading.Header.TheVariants.{Datagram, Check}
use Rattle.section.specs.declared.timing.RealTime.{RealTime}
use Rattle.section.specs.Rules.{column_fields}
use Rattle.section.specs.Writing.{write_field_rule, write_payload_rule, write_rules}

-- delta_t and the address fit their bits, and the payload a section
pub record Bounds (t : RealTime) (payload : List ℕ) : Type 0 where
  pub short : t.delta_t < 2 ^ 12
  pub low : t.address < 2 ^ 18
  pub fits : length payload ≤ 4080

-- the two tests that writing adds to those of reading, taken off again
pub column_parts : (m p s last : ℕ) (a b c d : Bool) → or_else (column_fields m p s last (a && b)) (when (not (c && d)) (Field 12)) ≡ None
    → (or_else (column_fields m p s last a) (when (not c) (Field 12)) ≡ None) × (b ≡ true) × (d ≡ true)
column_parts m p s last a b c d none =
    let e = or_else_none _ _ none in
    let e₀ = or_else_none (when (ltb 190 p) (Field 3)) _ e.0 in
    let e₁ = or_else_none (when (ltb last s) (Field 6)) _ e₀.1 in
    let e₂ = or_else_none (when (leb m last) (Field 7)) _ e₁.1 in
    let ab = and_parts a b (when_not_none _ _ e₂.1) in
    let cd = and_parts c d (when_not_none _ _ e.1) in
    (rw (e₀.0, e₁.0, e₂.0, ab.0, cd.0), ab.1, cd.1)

-- an address that is not refused has 18 bits, and a payload that is not refused fits a section
pub address_low : (R m : ℕ) (h : Header) (address size : ℕ) → write_field_rule R m h address size ≡ None → address < 2 ^ 18
address_low R m (Datagram h) address size none = leb-false _ _ (when_none _ _ none)
address_low R m (Check h) address size none =
    ltb-true _ _ (column_parts m h.padding_columns h.number h.last (eqb address (h.number * R)) _ (eqb size R) _ none).1

size_fits : (R m : ℕ) (h : Header) (address : ℕ) (payload : List ℕ) → write_field_rule R m h address (length payload) ≡ None → write_payload_rule h payload ≡ None → length payload ≤ 4080
size_fits R m (Datagram h) address payload field none = leb-true _ _ (and_parts _ _ (when_not_none _ _ none)).1
size_fits R m (Check h) address payload field none =
    leb-true _ _ (column_parts m h.padding_columns h.number h.last (eqb address (h.number * R)) _ (eqb (length payload) R) _ field).2

pub bounds : (R m : ℕ) (h : Header) (t : RealTime) (payload : List ℕ) (room : ℕ) → Passes (write_rules R m h t payload room) → Bounds t payload
bounds R m h t payload room passes =
    let short = ltb-false 4095 t.delta_t (when_none _ _ (or_else_none (when (not (eqb room 4096)) Unwritable) _ (passes.none 2)).1) in
    record {
      short = omega arith;
      low = address_low R m h t.address (length payload) (passes.none 0);
      fits = size_fits R m h t.address payload (passes.none 0) (passes.none 1);
    }
