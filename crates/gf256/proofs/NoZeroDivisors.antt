-- A product is 0 only where a factor is; powers in the field.
use mathlib.Core.Path.{◌≡◌, ap, ◌∙◌}
use Prim.Native.Nat.{ℕ, zero, suc, ◌<◌}
use native.Mathlib.Omega.{arith}
use lib.Dec.{lit<}
use Rattle.gf256.specs.Products.{times, power}
use Rattle.gf256.proofs.Laws.{times_lt}
use Rattle.gf256.proofs.ProductLaws.{times_comm}
use Rattle.gf256.proofs.PowerLaws.{power_lt}
use Rattle.gf256.proofs.Bytes.{Byte, GF, same}
use Rattle.gf256.proofs.Field as field

-- a product is 0 only where a factor is
pub no_divisor : (a b : ℕ) → a < 256 → b < 256 → ¬ (a ≡ 0) → times b a ≡ 0 → b ≡ 0
no_divisor a b ha hb n e =
    ap (λ (x : Byte). x.0)
    (field.no_divisor GF (a, ha) (b, hb) (λ p. n (ap (λ (x : Byte). x.0) p)) (same (times b a, times_lt b a hb) (0, lit< tt) e))

-- a power is 0 only where the element is
pub power_not_zero : (a n : ℕ) → a < 256 → ¬ (a ≡ 0) → ¬ (power a n ≡ 0)
unfolding power
power_not_zero a zero h d e = absurd (omega (arith, e))
power_not_zero a (suc n) h d e =
    power_not_zero a n h d (no_divisor a (power a n) h (power_lt a n h) d (times_comm (power a n) a (power_lt a n h) h ∙ e))

-- the powers of the field of bytes are the powers
pub pow_is : (a : Byte) (n : ℕ) → (field.pow GF a n).0 ≡ power a.0 n
unfolding power
pow_is a zero = ap (λ (x : Byte). x.0) (field.pow_zero GF a)
pow_is a (suc n) = ap (λ (x : Byte). x.0) (field.pow_suc GF a n) ∙ ap (times a.0) (pow_is a n)
