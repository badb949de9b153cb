-- The product is linear in each factor: of a sum it is the sum of the products.
use Rattle.std.proofs.Common.{◌≡◌, ℕ, zero, suc, ◌+◌, ◌-◌, ◌*◌, ◌/◌, ◌%◌, ◌^◌, ◌<◌, refl, sym, ap, ap₂, ◌∙◌, subst, arith}
use mathlib.Core.Logic.{◌⊎◌, inl, inr}
use native.Mathlib.Nat.{mod-lt, zero-mul, one-mul, add-zero}
use lib.Bits.{bit_xor, xor_comm, xor_assoc, xor_self, xor_zero_r, xor_mod, xor_shr, xor_block}
use lib.Pow.{pow_pos, mod-mod-pow, field}
use lib.Dec.{lit<}
use Rattle.gf256.specs.Sums.{field_sum}
use Rattle.gf256.specs.Products.{modulus, coefficient, polynomial_product, remainder_below, remainder, times}

-- (a + b) + (c + d) = (a + c) + (b + d)
pub xor_four : (a b c d : ℕ) → bit_xor (bit_xor a b) (bit_xor c d) ≡ bit_xor (bit_xor a c) (bit_xor b d)
xor_four a b c d =
    xor_assoc a b (bit_xor c d)
    ∙ ap (bit_xor a) (sym (xor_assoc b c d) ∙ ap (λ x. bit_xor x d) (xor_comm b c) ∙ xor_assoc c b d)
    ∙ sym (xor_assoc a c (bit_xor b d))

-- two whose sum is 0 are equal
pub equal_of_xor : (a b : ℕ) → bit_xor a b ≡ 0 → a ≡ b
equal_of_xor a b e = sym (xor_zero_r a) ∙ ap (bit_xor a) (sym (xor_self b)) ∙ sym (xor_assoc a b b) ∙ ap (λ x. bit_xor x b) e ∙ xor_comm 0 b ∙ xor_zero_r b

-- a bit is 0 or 1
bit : (b : ℕ) → (b % 2 ≡ 0) ⊎ (b % 2 ≡ 1)
bit b = go (b % 2) (mod-lt b (lit< tt))
  where
    go : (x : ℕ) → x < 2 → (x ≡ 0) ⊎ (x ≡ 1)
    go zero h = inl refl
    go (suc zero) h = inr refl
    go (suc (suc x)) h = absurd (omega arith)

-- what holds of 0 and of 1 holds of a bit
pub bit_two : (P : ℕ → Type 0) (b : ℕ) → P 0 → P 1 → P (b % 2)
bit_two P b p0 p1 = go (bit b)
  where
    go : (b % 2 ≡ 0) ⊎ (b % 2 ≡ 1) → P (b % 2)
    go (inl e) = subst P (sym e) p0
    go (inr e) = subst P (sym e) p1

-- (s + u) m = s m + u m, where s and u are bits
pub bits_times : (s u m : ℕ) → bit_xor s u % 2 * m ≡ bit_xor (s % 2 * m) (u % 2 * m)
bits_times s u m =
    ap (λ (x : ℕ). x * m) (xor_mod s u 1)
    ∙ bit_two (λ (x : ℕ). bit_xor x (u % 2) * m ≡ bit_xor (x * m) (u % 2 * m)) s
    (rw zero-mul)
    (bit_two (λ (y : ℕ). bit_xor 1 y * m ≡ bit_xor (1 * m) (y * m)) u
    (rw (zero-mul, xor_zero_r (1 * m))) (rw (xor_self (1 * m), zero-mul)))

-- s (a + b) = s a + s b, where s is a bit
bit_times_xor : (s a b : ℕ) → s % 2 * bit_xor a b ≡ bit_xor (s % 2 * a) (s % 2 * b)
bit_times_xor s a b =
    bit_two (λ (x : ℕ). x * bit_xor a b ≡ bit_xor (x * a) (x * b)) s (simp zero-mul) (simp one-mul)

-- each coefficient of a sum is the sum of the coefficients
coefficient_xor : (p q k m : ℕ) → coefficient (bit_xor p q) k * m ≡ bit_xor (coefficient p k * m) (coefficient q k * m)
coefficient_xor p q k m = ap (λ (x : ℕ). x % 2 * m) (xor_shr p q k) ∙ bits_times (p / 2 ^ k) (q / 2 ^ k) m

-- a shift of a sum is the sum of the shifts
pub shifted_xor : (a b k : ℕ) → bit_xor a b * 2 ^ k ≡ bit_xor (a * 2 ^ k) (b * 2 ^ k)
shifted_xor a b k = sym (simp add-zero at (xor_block k a b 0 0 (pow_pos k) (pow_pos k)))

-- a sum of sums is the sum of two sums
sum_xor : (f g h : ℕ → ℕ) (n : ℕ) → ((k : ℕ) → f k ≡ bit_xor (g k) (h k)) → field_sum f n ≡ bit_xor (field_sum g n) (field_sum h n)
unfolding field_sum
sum_xor f g h zero e = refl
sum_xor f g h (suc n) e = ap₂ bit_xor (sum_xor f g h n e) (e n) ∙ xor_four (field_sum g n) (field_sum h n) (g n) (h n)

-- the remainder of a sum is the sum of the remainders
remainder_xor : (n p q : ℕ) → remainder_below n (bit_xor p q) ≡ bit_xor (remainder_below n p) (remainder_below n q)
unfolding remainder_below
remainder_xor zero p q = refl
remainder_xor (suc n) p q =
    let m : ℕ = modulus * 2 ^ n in
    ap (λ x. remainder_below n (bit_xor (bit_xor p q) x)) (coefficient_xor p q (8 + n) m)
    ∙ ap (remainder_below n) (xor_four p q (coefficient p (8 + n) * m) (coefficient q (8 + n) * m))
    ∙ remainder_xor n (bit_xor p (coefficient p (8 + n) * m)) (bit_xor q (coefficient q (8 + n) * m))

-- the function of a sum is the sum of the functions
abbrev pub Linear : (ℕ → ℕ) → Type 0
Linear f = (a b : ℕ) → f (bit_xor a b) ≡ bit_xor (f a) (f b)

-- and so it is 0 at 0
pub linear_zero : (f : ℕ → ℕ) → Linear f → f 0 ≡ 0
linear_zero f l = l 0 0 ∙ xor_self (f 0)

-- a function that is linear after another that is
pub linear_then : (f g : ℕ → ℕ) → Linear f → Linear g → Linear (λ a. g (f a))
linear_then f g lf lg a b = ap g (lf a b) ∙ lg (f a) (f b)

-- linear in each of its two arguments
abbrev pub Bilinear : (ℕ → ℕ → ℕ) → Type 0
Bilinear f = ((b : ℕ) → Linear (λ a. f a b)) × ((a : ℕ) → Linear (f a))

-- the product of polynomials is linear in its second factor
pub product_linear : (a : ℕ) → Linear (polynomial_product a)
unfolding polynomial_product
product_linear a b c = sum_xor _ _ _ 8 (λ k. coefficient_xor b c k (a * 2 ^ k))

-- the product is linear in its second factor
pub right_linear : (a : ℕ) → Linear (times a)
unfolding times
right_linear a b c = ap remainder (product_linear a b c) ∙ remainder_xor 8 (polynomial_product a b) (polynomial_product a c)

-- and in its first
pub left_linear : (c : ℕ) → Linear (λ a. times a c)
unfolding times polynomial_product
left_linear c a b =
    ap remainder (sum_xor _ _ _ 8 (λ k.
    ap (λ (x : ℕ). coefficient c k * x) (shifted_xor a b k) ∙ bit_times_xor (c / 2 ^ k) (a * 2 ^ k) (b * 2 ^ k)))
    ∙ remainder_xor 8 (polynomial_product a c) (polynomial_product b c)

-- sums of the same terms
pub sum_same : (f g : ℕ → ℕ) (n : ℕ) → ((k : ℕ) → k < n → f k ≡ g k) → field_sum f n ≡ field_sum g n
unfolding field_sum
sum_same f g zero e = refl
sum_same f g (suc n) e = ap₂ bit_xor (sum_same f g n (λ k l. e k (omega arith))) (e n (omega arith))

-- the low eight bits have the coefficients that they have in the whole
low_coefficient : (b k : ℕ) → k < 8 → coefficient b k ≡ coefficient (b % 256) k
low_coefficient b k h =
    let e : (7 - k) + 1 + k ≡ 8 = omega arith in
    sym (ap (λ (m : ℕ). b % 2 ^ m / 2 ^ k % 2) (sym e)
    ∙ ap (λ (x : ℕ). x % 2) (field b ((7 - k) + 1) k) ∙ mod-mod-pow (b / 2 ^ k) (7 - k) 1)

-- a product takes the low eight bits of its second factor
pub low_bits : (a b : ℕ) → times a b ≡ times a (b % 256)
unfolding times polynomial_product
low_bits a b = ap remainder (sum_same _ _ 8 (λ k l. ap (λ (x : ℕ). x * (a * 2 ^ k)) (low_coefficient b k l)))
