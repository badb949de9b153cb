-- Sums of exponents: products, inverses, and the powers that come round after 255.
use Rattle.std.proofs.Common.{◌≡◌, ℕ, zero, suc, ◌+◌, ◌*◌, ◌/◌, ◌%◌, refl, sym, ap, ◌∙◌, arith, lit<}
use Rattle.gf256.specs.Products.{times, power}
use Rattle.gf256.proofs.Laws.{one_times, times_one}
use Rattle.gf256.proofs.ProductLaws.{zero_times, times_zero}
use Rattle.gf256.proofs.PowerLaws.{power_lt, power_add, power_mul}
use Rattle.gf256.proofs.Inverse.{power_inverse}
use Rattle.gf256.proofs.Tables.{round}

-- the sum of two logarithms is that of the product
pub two_add : (m n : ℕ) → power 2 (m + n) ≡ times (power 2 m) (power 2 n)
two_add m n = power_add 2 m n (lit< tt)

pub ruleset products = (two_add, zero_times, times_zero)

-- and what is missing to 255 is that of the inverse
pub ruleset inverses = (power_inverse)

-- each power of 1 is 1
one_power : (n : ℕ) → power 1 n ≡ 1
unfolding power
one_power zero = refl
one_power (suc n) = ap (times 1) (one_power n) ∙ one_times 1 (lit< tt)

-- a power is that of the remainder by 255
pub two_round : (n : ℕ) → power 2 (n % 255) ≡ power 2 n
two_round n =
    let e : n % 255 + 255 * (n / 255) ≡ n = omega arith in
    let p : power 2 (255 * (n / 255)) ≡ 1 = power_mul 2 255 (n / 255) (lit< tt) ∙ ap (λ (x : ℕ). power x (n / 255)) round ∙ one_power (n / 255) in
    sym (ap (power 2) (sym e) ∙ two_add (n % 255) (255 * (n / 255)) ∙ ap (times (power 2 (n % 255))) p
    ∙ times_one (power 2 (n % 255)) (power_lt 2 (n % 255) (lit< tt)))
