-- What is promised of bytes as a field.
use Rattle.std.specs.Prelude.{◌≡◌, ◌≢◌, ℕ, ◌<◌, bit_xor}
use Rattle.gf256.specs.Products.{modulus, polynomial_product, times, power, g}

-- bytes are a field, with the exclusive-or as sum and `times` as product, and the powers of g are all of it but 0
pub record IsField : Type 0 where
  -- the sum, of which each element is its own negative
  pub sum_byte : (a b : ℕ) → a < 256 → b < 256 → bit_xor a b < 256
  pub sum_zero : (a : ℕ) → bit_xor a 0 ≡ a
  pub sum_commutes : (a b : ℕ) → bit_xor a b ≡ bit_xor b a
  pub sum_associates : (a b c : ℕ) → bit_xor (bit_xor a b) c ≡ bit_xor a (bit_xor b c)
  pub sum_self : (a : ℕ) → bit_xor a a ≡ 0
  -- the product is a byte that differs from the product of the polynomials by a multiple of the modulus
  pub product_byte : (a b : ℕ) → a < 256 → b < 256 → times a b < 256
  pub product_is : (a b : ℕ) → a < 256 → b < 256 → (q : ℕ) × (bit_xor (polynomial_product a b) (times a b) ≡ polynomial_product modulus q)
  pub one : (a : ℕ) → a < 256 → times a 1 ≡ a
  pub commutes : (a b : ℕ) → a < 256 → b < 256 → times a b ≡ times b a
  pub associates : (a b c : ℕ) → a < 256 → b < 256 → c < 256 → times (times a b) c ≡ times a (times b c)
  pub distributes : (a b c : ℕ) → a < 256 → b < 256 → c < 256 → times a (bit_xor b c) ≡ bit_xor (times a b) (times a c)
  pub inverse : (a : ℕ) → a < 256 → a ≢ 0 → (b : ℕ) × (b < 256) × (times a b ≡ 1)
  pub no_zero_divisors : (a b : ℕ) → a < 256 → b < 256 → a ≢ 0 → times a b ≡ 0 → b ≡ 0
  -- no power of g is 0, those from 0 to 254 all differ, and the next is 1 again
  pub powers_not_zero : (i : ℕ) → power g i ≢ 0
  pub powers_differ : (i j : ℕ) → i < j → j < 255 → power g i ≢ power g j
  pub comes_round : power g 255 ≡ 1
