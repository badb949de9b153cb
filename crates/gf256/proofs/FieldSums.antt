-- Sums in the field.
use Rattle.std.proofs.Common.{◌≡◌, ℕ, zero, suc, ◌<◌, sym, ap, ◌∙◌, arith, lit<}
use lib.Bits.{bit_xor, xor_lt}
use Rattle.gf256.specs.Products.{times}
use Rattle.gf256.specs.Sums.{field_sum}
use Rattle.gf256.proofs.ProductLaws.{xor_times, zero_times}

-- a sum of bytes is a byte
pub sum_lt : (f : ℕ → ℕ) (n : ℕ) → ((i : ℕ) → i < n → f i < 256) → field_sum f n < 256
unfolding field_sum
sum_lt f zero h = lit< tt
sum_lt f (suc n) h = xor_lt 8 (field_sum f n) (f n) (sum_lt f n (λ i l. h i (omega arith))) (h n (omega arith))

-- a common factor
pub sum_times : (f : ℕ → ℕ) (x n : ℕ) → ((i : ℕ) → i < n → f i < 256) → field_sum (λ i. times (f i) x) n ≡ times (field_sum f n) x
unfolding field_sum
sum_times f x zero h = sym (zero_times x)
sum_times f x (suc n) h =
    ap (λ y. bit_xor y (times (f n) x)) (sum_times f x n (λ i l. h i (omega arith)))
    ∙ sym (xor_times (field_sum f n) (f n) x (sum_lt f n (λ i l. h i (omega arith))) (h n (omega arith)))
