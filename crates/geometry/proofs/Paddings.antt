-- The p of an end inside the table is right, and no other is.
use Rattle.std.proofs.Common.{◌≡◌, ℕ, ◌+◌, ◌-◌, ◌*◌, ◌%◌, ◌<◌, ◌≤◌, ap, sym, ◌∙◌, arith}
use Rattle.std.proofs.Math.Nat.{mul-le-mul_right, mod-lt, add-mul}
use Rattle.std.proofs.lemmas.Nat.{div-add-mod'}
use Rattle.geometry.specs.Ends.{EndsIn, padding_of, OnlyPadding}

-- of two columns, the one with more padding to its right ends first
apart : (R p q end : ℕ) → p < q → EndsIn R p end → EndsIn R q end → ⊥
apart R p q end less p_is q_is =
    let fewer : 191 - q ≤ 190 - p = omega arith in
    omega (arith, mul-le-mul_right R fewer, p_is.0, q_is.1)

pub one_padding : (R p q end : ℕ) → EndsIn R p end → EndsIn R q end → q ≡ p
one_padding R p q end p_is q_is =
    let not_less : p < q → ⊥ = λ l. apart R p q end l p_is q_is in
    let not_more : q < p → ⊥ = λ l. apart R q p end l q_is p_is in
    grind (arith, not_less, not_more)

-- the columns of a table in two parts
parts : (R q p n : ℕ) → p + q ≡ n → p * R + q * R ≡ n * R
parts R q p n sum = sym (add-mul p q R) ∙ ap (λ c. c * R) sum

-- so many whole columns fit behind the end, with less than one more
in_columns : (R end q rest : ℕ) → q * R + rest ≡ 191 * R - end → rest < R → 0 < end → end ≤ 191 * R → (q ≤ 190) × EndsIn R q end
in_columns R end q rest whole less below above =
    let few : q ≤ 190 = grind (arith, mul-le-mul_right) in
    let up = parts R q (191 - q) 191 (omega arith) in
    let down = parts R q (190 - q) 190 (omega arith) in
    (few, (omega (arith, down, whole, less), omega (arith, up, whole)))

pub only_padding : (R end : ℕ) → 1 ≤ R → 0 < end → end ≤ 191 * R → OnlyPadding R end (padding_of R end)
only_padding R end some below above =
    let split = in_columns R end (padding_of R end) ((191 * R - end) % R) (div-add-mod' (191 * R - end) R) (mod-lt (191 * R - end) (omega arith)) below above in
    record { few = split.0; is = split.1; only = λ q few is. one_padding R (padding_of R end) q end split.1 is }
