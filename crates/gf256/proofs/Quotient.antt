-- The remainder of a polynomial differs from it by a multiple of the modulus.
use Rattle.std.proofs.Common.{◌≡◌, ℕ, zero, suc, ◌+◌, ◌*◌, ◌/◌, ◌^◌, ◌<◌, ◌≤◌, T, eqb, eqb→eq, sym, ap, ap₂, ◌∙◌, arith, zero-mul, one-mul}
use lib.Bits.{bit_xor, xor_assoc, xor_comm, xor_self}
use Rattle.gf256.specs.Sums.{field_sum}
use Rattle.gf256.specs.Products.{modulus, coefficient, polynomial_product, remainder_below}
use Rattle.octets.proofs.EachByte.{all_below, at_each}
use Rattle.gf256.proofs.Linear.{bit_two, linear_zero, product_linear}

-- the modulus times a power of x
multiples_tested : T (all_below (λ n. eqb (polynomial_product modulus (2 ^ n)) (modulus * 2 ^ n)) 8)
unfolding polynomial_product field_sum
multiples_tested = tt

-- the polynomial by which the modulus was taken off
pub quotient : ℕ → ℕ → ℕ
quotient zero p = 0
quotient (suc n) p =
    bit_xor (coefficient p (8 + n) * 2 ^ n) (quotient n (bit_xor p (coefficient p (8 + n) * (modulus * 2 ^ n))))

-- what one step takes off
taken : (n p : ℕ) → n < 8 → coefficient p (8 + n) * (modulus * 2 ^ n) ≡ polynomial_product modulus (coefficient p (8 + n) * 2 ^ n)
taken n p h =
    bit_two (λ (x : ℕ). x * (modulus * 2 ^ n) ≡ polynomial_product modulus (x * 2 ^ n)) (p / 2 ^ (8 + n))
    (rw (zero-mul (modulus * 2 ^ n), zero-mul (2 ^ n)) (sym (linear_zero (polynomial_product modulus) (product_linear modulus))))
    (rw (one-mul (modulus * 2 ^ n), one-mul (2 ^ n))
    (sym (eqb→eq _ _ (at_each (λ n. eqb (polynomial_product modulus (2 ^ n)) (modulus * 2 ^ n)) 8 multiples_tested n h))))

-- what is taken off and what is left are the polynomial
undo : (p t : ℕ) → bit_xor t (bit_xor p t) ≡ p
undo p t = ap (bit_xor t) (xor_comm p t) ∙ sym (xor_assoc t t p) ∙ ap (λ x. bit_xor x p) (xor_self t)

-- it times the modulus is what the remainder differs by
pub quotient_is : (n p : ℕ) → n ≤ 8 → bit_xor p (remainder_below n p) ≡ polynomial_product modulus (quotient n p)
unfolding remainder_below quotient
quotient_is zero p h = xor_self p ∙ sym (linear_zero (polynomial_product modulus) (product_linear modulus))
quotient_is (suc n) p h =
    let t : ℕ = coefficient p (8 + n) * (modulus * 2 ^ n) in
    let q : ℕ = bit_xor p t in
    ap (λ x. bit_xor x (remainder_below n q)) (sym (undo p t))
    ∙ xor_assoc t q (remainder_below n q)
    ∙ ap₂ bit_xor (taken n p (omega arith)) (quotient_is n q (omega arith))
    ∙ sym (product_linear modulus (coefficient p (8 + n) * 2 ^ n) (quotient n q))
