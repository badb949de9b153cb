-- Horner's rule for the value of a row at x, where the first byte has the highest power: from that byte on, what is summed so far
-- times x, and the next byte.
use Rattle.std.specs.Prelude.{ℕ, List, bit_xor}
use Rattle.std.specs.List.{fold}
use Rattle.gf256.specs.Products.{times}

unfoldable pub horner : ℕ → List ℕ → ℕ
horner x row = fold (λ sum b. bit_xor (times sum x) b) 0 row
