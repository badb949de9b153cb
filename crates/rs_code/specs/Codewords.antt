-- The codewords of RS(255,191).
use Rattle.std.specs.Prelude.{◌≡◌, ℕ, ◌-◌, ◌*◌, ◌<◌, List}
use Rattle.octets.specs.Octets.{byte}
use Rattle.gf256.specs.Products.{times, power, g}
use Rattle.gf256.specs.Sums.{field_sum}
use Rattle.rowcode.specs.Rows.{IsRow}

-- a row's j-th syndrome: the field sum of b_i times g to the power j × (254 - i), over all 255 bytes b_i
unfoldable pub syndrome : List ℕ → ℕ → ℕ
syndrome row j = field_sum (λ i. times (byte row i) (power g (j * (254 - i)))) 255

-- 255 bytes are a codeword exactly when their syndromes 0 to 63 are 0
pub record Codeword (row : List ℕ) : Type 0 where
  pub is_row : IsRow 255 row
  pub syndromes : (j : ℕ) → j < 64 → syndrome row j ≡ 0
