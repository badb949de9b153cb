-- Eight bits that agree make the same byte.
use Rattle.std.proofs.Common.{◌≡◌, ℕ, ◌<◌, eqb, arith}
use Rattle.std.proofs.lemmas.Nat.Bits.{bit_at-lt, same_from_bits_below}
use Rattle.octets.specs.Octets.{bit}

same_digit : (x y : ℕ) → x < 2 → y < 2 → eqb x 1 ≡ eqb y 1 → x ≡ y
same_digit x y h k e = grind arith

pub same_byte : (a b : ℕ) → a < 256 → b < 256 → ((k : ℕ) → k < 8 → bit a k ≡ bit b k) → a ≡ b
same_byte a b ha hb each =
    same_from_bits_below 8 a b ha hb (λ k h. same_digit _ _ (bit_at-lt a k) (bit_at-lt b k) (each k h))
