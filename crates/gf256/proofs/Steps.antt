-- The steps of the two functions: x times an element, and the product by the lowest bit of a factor and the rest of it.
use Rattle.std.proofs.Common.{shr-shr, ◌≡◌, ℕ, ◌+◌, ◌*◌, ◌/◌, ◌%◌, ◌^◌, ◌<◌, ◌≤◌, refl, sym, ap, ap₂, ◌∙◌, arith, lit<, zero-mul, one-mul}
use lib.Bits.{bit_and, and_mask, bit_xor, xor_assoc, xor_mod, xor_shr, xor_zero_r}
use Rattle.gf256.specs.Sums.{field_sum}
use Rattle.gf256.specs.Products.{polynomial_product, remainder_below, times}
use Rattle.gf256.proofs.Agree.{agree}
use Rattle.gf256.proofs.Linear.{Linear, right_linear, shifted_xor, bits_times, bit_two, xor_four}
use Rattle.gf256.proofs.Laws.{times_one}
use Rattle.gf256.proofs.ProductLaws.{times_comm, times_assoc, times_zero}

-- the low seven bits move up, and the highest brings 0x1D
double : ℕ → ℕ
double a = bit_xor (a * 2 % 256) (a / 128 % 2 * 29)

-- it is linear
double_linear : Linear double
unfolding double
double_linear a b =
    ap₂ bit_xor
    (ap (λ (x : ℕ). x % 256) (shifted_xor a b 1) ∙ xor_mod (a * 2) (b * 2) 8)
    (ap (λ (x : ℕ). x % 2 * 29) (xor_shr a b 7) ∙ bits_times (a / 128) (b / 128) 29)
    ∙ xor_four (a * 2 % 256) (b * 2 % 256) (a / 128 % 2 * 29) (b / 128 % 2 * 29)

-- and is the product with x
double_is : (a : ℕ) → a < 256 → double a ≡ times 2 a
unfolding double field_sum polynomial_product remainder_below times
double_is = agree double (times 2) double_linear (right_linear 2) tt

-- x times an element without x^7
pub double_low : (a : ℕ) → a < 128 → a * 2 % 256 ≡ times 2 a
unfolding double
double_low a h =
    let z : a / 128 % 2 * 29 ≡ 0 = omega arith in
    sym (ap (bit_xor (a * 2 % 256)) z ∙ xor_zero_r (a * 2 % 256)) ∙ double_is a (omega arith)

-- x times an element with x^7
pub double_high : (a : ℕ) → 128 ≤ a → a < 256 → bit_xor (a * 2 % 256) 29 ≡ times 2 a
unfolding double
double_high a l h =
    let s : 29 ≡ a / 128 % 2 * 29 = omega arith in
    ap (bit_xor (a * 2 % 256)) s ∙ double_is a h

pub ruleset doubling = (double_low, double_high)

-- a number is its lowest bit and x times the rest
parts : ℕ → ℕ
parts b = bit_xor (b % 2) (times 2 (b / 2))

-- their sum is linear
parts_linear : Linear parts
unfolding parts
parts_linear a b =
    ap₂ bit_xor (xor_mod a b 1) (ap (times 2) (xor_shr a b 1) ∙ right_linear 2 (a / 2) (b / 2))
    ∙ xor_four (a % 2) (b % 2) (times 2 (a / 2)) (times 2 (b / 2))

-- and is the number
parts_is : (b : ℕ) → b < 256 → b ≡ parts b
unfolding parts field_sum polynomial_product remainder_below times
parts_is = agree (λ b. b) parts (λ a b. refl) parts_linear tt

-- a product is the first factor where the second has 1, and x times the first factor times the rest of the second
pub first_bit : (a b : ℕ) → a < 256 → b < 256 → times a b ≡ bit_xor (b % 2 * a) (times (times 2 a) (b / 2))
unfolding parts
first_bit a b ha hb =
    ap (times a) (parts_is b hb)
    ∙ right_linear a (b % 2) (times 2 (b / 2))
    ∙ ap₂ bit_xor
    (bit_two (λ (x : ℕ). times a x ≡ x * a) b (times_zero a ha ∙ sym (zero-mul a)) (times_one a ha ∙ sym (one-mul a)))
    (sym (times_assoc a 2 (b / 2) ha (lit< tt)) ∙ ap (λ x. times x (b / 2)) (times_comm a 2 ha (lit< tt)))

-- a turn of the loop where the other factor's lowest bit is 1: what is summed and what is left stay the same together
pub turn_with : (sum a b : ℕ) → a < 256 → b < 256 → bit_and b 1 ≡ 1
    → bit_xor (bit_xor sum a) (times (times 2 a) (b / 2)) ≡ bit_xor sum (times a b)
turn_with sum a b ha hb e =
    let one : b % 2 ≡ 1 = sym (and_mask b 1) ∙ e in
    rw (first_bit a b ha hb, one, one-mul) (xor_assoc sum a (times (times 2 a) (b / 2)))

-- and where it is 0
pub turn_without : (sum a b : ℕ) → a < 256 → b < 256 → ¬ (bit_and b 1 ≡ 1)
    → bit_xor sum (times (times 2 a) (b / 2)) ≡ bit_xor sum (times a b)
turn_without sum a b ha hb n =
    let m : bit_and b 1 ≡ b % 2 = and_mask b 1 in
    let none : b % 2 ≡ 0 = omega (arith, m, n) in
    rw (first_bit a b ha hb, none, zero-mul)

-- after eight turns nothing is left of the other factor
pub none_left : (sum a b : ℕ) → a < 256 → b < 256 → bit_xor sum (times a (b / 2 ^ 8)) ≡ sum
none_left sum a b ha hb =
    let none : b / 2 ^ 8 ≡ 0 = omega arith in rw (none, times_zero a ha) (xor_zero_r sum)

-- after a turn more, half of it is left
pub halved : (b k : ℕ) → b / 2 ^ (k + 1) ≡ b / 2 ^ k / 2
halved b k = sym (shr-shr b k 1)

pub ruleset turns = (turn_with, turn_without, none_left, halved)
