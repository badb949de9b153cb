-- Products of bytes are bytes, and 1 is neutral.
use Rattle.std.proofs.Common.{◌≡◌, ℕ, ◌%◌, ◌<◌, refl, sym, ◌∙◌, subst, mod-lt, lit<}
use lib.Bits.{xor_mod}
use Rattle.gf256.specs.Sums.{field_sum}
use Rattle.gf256.specs.Products.{polynomial_product, remainder_below, times}
use Rattle.gf256.proofs.Linear.{Linear, left_linear, right_linear, linear_then, low_bits}
use Rattle.gf256.proofs.Agree.{agree, agree_two}
use Rattle.gf256.proofs.ProductLaws.{times_comm}

-- the remainder by a power of 2 is linear
mod_linear : Linear (λ a. a % 256)
mod_linear a b = xor_mod a b 8

-- the product of two bytes has no bit above the lowest eight
byte : (a b : ℕ) → a < 256 → b < 256 → times a b ≡ times a b % 256
unfolding field_sum polynomial_product remainder_below times
byte = agree_two times (λ a b. times a b % 256) (left_linear, right_linear) (
  λ b. linear_then (λ a. times a b) (λ x. x % 256) (left_linear b) mod_linear,
  λ a. linear_then (times a) (λ x. x % 256) (right_linear a) mod_linear,
) tt

-- a product with a byte is a byte
pub times_lt : (a b : ℕ) → a < 256 → times a b < 256
times_lt a b h =
    subst (λ (x : ℕ). x < 256) (sym (low_bits a b ∙ byte a (b % 256) h (mod-lt b (lit< tt)))) (mod-lt (times a (b % 256)) (lit< tt))

-- an element times 1
pub times_one : (a : ℕ) → a < 256 → times a 1 ≡ a
unfolding field_sum polynomial_product remainder_below times
times_one = agree (λ a. times a 1) (λ a. a) (left_linear 1) (λ a b. refl) tt

-- 1 times an element
pub one_times : (a : ℕ) → a < 256 → times 1 a ≡ a
one_times a h = times_comm 1 a (lit< tt) h ∙ times_one a h
