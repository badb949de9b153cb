-- Sums in the field.
use Rattle.std.specs.Prelude.{ℕ, zero, suc, bit_xor}

-- f 0 + .. + f (n - 1): a sum is the exclusive-or
unfoldable pub field_sum : (ℕ → ℕ) → ℕ → ℕ
field_sum f zero = 0
field_sum f (suc n) = bit_xor (field_sum f n) (f n)
