-- The field of 256 elements. A number is a polynomial over bits: its bit k is the coefficient of x^k. The sum of two is their
-- exclusive-or. The product of two bytes is that of their polynomials, of which the remainder by the modulus is taken.
use Rattle.std.specs.Prelude.{ℕ, zero, suc, ◌+◌, ◌*◌, ◌/◌, ◌%◌, ◌^◌, bit_xor}
use Rattle.gf256.specs.Sums.{field_sum}

-- x^8 + x^4 + x^3 + x^2 + 1
abbrev pub modulus : ℕ
modulus = 0x11D

-- bit k of a polynomial, as a number
abbrev pub coefficient : ℕ → ℕ → ℕ
coefficient p k = p / 2 ^ k % 2

-- the product of a polynomial a and a polynomial b below x^8: for each bit of b that is 1, a times that power of x
unfoldable pub polynomial_product : ℕ → ℕ → ℕ
polynomial_product a b = field_sum (λ k. coefficient b k * (a * 2 ^ k)) 8

-- long division of a polynomial below x^(8 + n) by the modulus: for each power from x^(7 + n) down to x^8 that is still there,
-- the modulus times the power of x that makes it begin with that one is taken off
unfoldable pub remainder_below : ℕ → ℕ → ℕ
remainder_below zero p = p
remainder_below (suc n) p = remainder_below n (bit_xor p (coefficient p (8 + n) * (modulus * 2 ^ n)))

-- the remainder of a polynomial below x^16
abbrev pub remainder : ℕ → ℕ
remainder p = remainder_below 8 p

-- the product of two elements
unfoldable pub times : ℕ → ℕ → ℕ
times a b = remainder (polynomial_product a b)

-- the n-th power of an element
unfoldable pub power : ℕ → ℕ → ℕ
power a zero = 1
power a (suc n) = times a (power a n)

-- an element whose powers are all elements but 0
abbrev pub g : ℕ
g = 0x02
