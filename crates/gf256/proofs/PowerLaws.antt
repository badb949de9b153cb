-- The laws of powers.
use mathlib.Core.Path.{◌≡◌, sym, ap, ◌∙◌}
use Prim.Native.Nat.{ℕ, zero, suc, ◌+◌, ◌*◌, ◌<◌}
use native.Mathlib.Nat.{zero-add, suc-add, mul-zero}
use native.Mathlib.Omega.{arith}
use lib.Dec.{lit<}
use Rattle.gf256.specs.Products.{times, power}
use Rattle.gf256.proofs.Laws.{times_lt, one_times}
use Rattle.gf256.proofs.ProductLaws.{times_assoc}

-- a power of a byte is a byte
pub power_lt : (a n : ℕ) → a < 256 → power a n < 256
unfolding power
power_lt a zero h = lit< tt
power_lt a (suc n) h = times_lt a (power a n) h

-- the power of a sum is the product of the powers
pub power_add : (a m n : ℕ) → a < 256 → power a (m + n) ≡ times (power a m) (power a n)
unfolding power
power_add a zero n h = ap (power a) (zero-add n) ∙ sym (one_times (power a n) (power_lt a n h))
power_add a (suc m) n h =
    ap (power a) (suc-add m n) ∙ ap (times a) (power_add a m n h) ∙ sym (times_assoc a (power a m) (power a n) h (power_lt a m h))

-- the power of a product is the power of the power
pub power_mul : (a m n : ℕ) → a < 256 → power a (m * n) ≡ power (power a m) n
unfolding power
power_mul a m zero h = ap (power a) (mul-zero m)
power_mul a m (suc n) h =
    let e : m * suc n ≡ m + m * n = omega arith in
    ap (power a) e ∙ power_add a m (m * n) h ∙ ap (times (power a m)) (power_mul a m n h)
