-- The product is distributive, commutative and associative.
use Rattle.std.proofs.Common.{◌≡◌, ℕ, ◌^◌, ◌%◌, ◌<◌, T, ap, sym, ◌∙◌, mod-lt, lit<}
use lib.Bits.{bit_xor}
use Rattle.gf256.specs.Sums.{field_sum}
use Rattle.gf256.specs.Products.{polynomial_product, remainder_below, times}
use Rattle.octets.proofs.EachByte.{all_below, at_each}
use Rattle.gf256.proofs.Linear.{left_linear, right_linear, linear_then, linear_zero, low_bits}
use Rattle.gf256.proofs.Agree.{agree_at, agree_two, same_at_pairs}

-- the sum of two elements times a third
pub xor_times : (a b c : ℕ) → a < 256 → b < 256 → times (bit_xor a b) c ≡ bit_xor (times a c) (times b c)
xor_times a b c ha hb = left_linear c a b

-- an element times the sum of two
pub times_xor : (a b c : ℕ) → a < 256 → b < 256 → c < 256 → times c (bit_xor a b) ≡ bit_xor (times c a) (times c b)
times_xor a b c ha hb hc = right_linear c a b

-- 0 times an element
pub zero_times : (b : ℕ) → times 0 b ≡ 0
zero_times b = linear_zero (λ a. times a b) (left_linear b)

-- an element times 0
pub times_zero : (a : ℕ) → a < 256 → times a 0 ≡ 0
times_zero a h = linear_zero (times a) (right_linear a)

-- the factors change places
pub times_comm : (a b : ℕ) → a < 256 → b < 256 → times a b ≡ times b a
unfolding field_sum polynomial_product remainder_below times
times_comm = agree_two times (λ a b. times b a) (left_linear, right_linear) (right_linear, left_linear) tt

-- the two products of three at the powers of x
triples_tested : T (all_below (λ k. same_at_pairs (λ a b. times (times a b) (2 ^ k)) (λ a b. times a (times b (2 ^ k)))) 8)
unfolding field_sum polynomial_product remainder_below times
triples_tested = tt

-- the product of three bytes
assoc : (a b c : ℕ) → a < 256 → b < 256 → c < 256 → times (times a b) c ≡ times a (times b c)
assoc a b c ha hb hc =
    agree_at (times (times a b)) (λ c. times a (times b c)) (right_linear (times a b)) (linear_then (times b) (times a) (right_linear b) (right_linear a))
    (λ k l. agree_two (λ a b. times (times a b) (2 ^ k)) (λ a b. times a (times b (2 ^ k))) (
      λ b. linear_then (λ a. times a b) (λ x. times x (2 ^ k)) (left_linear b) (left_linear (2 ^ k)),
      λ a. linear_then (times a) (λ x. times x (2 ^ k)) (right_linear a) (left_linear (2 ^ k)),
    ) (
      λ b. left_linear (times b (2 ^ k)),
      λ a. linear_then (λ b. times b (2 ^ k)) (times a) (left_linear (2 ^ k)) (right_linear a),
    )
    (at_each (λ k. same_at_pairs (λ a b. times (times a b) (2 ^ k)) (λ a b. times a (times b (2 ^ k)))) 8 triples_tested k l) a b ha hb) c hc

-- the product of two bytes and any number, of which the low eight bits count
pub times_assoc : (a b c : ℕ) → a < 256 → b < 256 → times (times a b) c ≡ times a (times b c)
times_assoc a b c ha hb =
    low_bits (times a b) c ∙ assoc a b (c % 256) ha hb (mod-lt c (lit< tt)) ∙ ap (times a) (sym (low_bits b c))
