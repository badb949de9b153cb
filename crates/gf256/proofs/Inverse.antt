-- Each byte but 0 has an inverse: where a is the power x of 2, it is the power 255 - x.
use Rattle.std.proofs.Common.{◌≡◌, ℕ, ◌+◌, ◌-◌, ◌<◌, sym, ap, ◌∙◌, arith, lit<}
use Rattle.gf256.specs.Products.{times, power}
use Rattle.gf256.proofs.Tables.{log, log_lt, power_log, round}
use Rattle.gf256.proofs.PowerLaws.{power_lt, power_add}

-- a power, and what is missing to the power 255, have the product 1
pub power_inverse : (m : ℕ) → m < 255 → times (power 2 m) (power 2 (255 - m)) ≡ 1
power_inverse m h =
    let e : m + (255 - m) ≡ 255 = omega (arith, h) in
    sym (power_add 2 m (255 - m) (lit< tt)) ∙ ap (power 2) e ∙ round

-- the inverse
pub inverse_of : ℕ → ℕ
inverse_of a = power 2 (255 - log a)

-- it is a byte
pub inverse_lt : (a : ℕ) → inverse_of a < 256
unfolding inverse_of
inverse_lt a = power_lt 2 (255 - log a) (lit< tt)

-- and its product with the element is 1
pub times_inverse : (a : ℕ) → a < 256 → ¬ (a ≡ 0) → times a (inverse_of a) ≡ 1
unfolding inverse_of
times_inverse a h n =
    let p : 0 < a = omega (arith, n) in
    ap (λ (x : ℕ). times x (power 2 (255 - log a))) (sym (power_log a p h)) ∙ power_inverse (log a) (log_lt a p h)
