-- The register over messages: its 32 bits, and one message after another.
use Rattle.std.proofs.Common.{◌≡◌, ℕ, zero, suc, ◌*◌, ◌%◌, ◌^◌, ◌<◌, Bool, true, false, cond, List, [], ◌∷◌, ◌++◌, refl, mod-lt, lit<}
use mathlib.Core.Bool.{xor}
use lib.Bits.{xor_lt}
use Rattle.octets.specs.Octets.{bit}
use Rattle.crc32.specs.Crc.{crc_bit, crc_bits, crc_byte, crc_from, crc}

polynomial_lt : (d : Bool) → cond d 0x04C1_1DB7 0 < 2 ^ 32
polynomial_lt true = lit< tt
polynomial_lt false = lit< tt

crc_bits-lt : (n r b : ℕ) → r < 2 ^ 32 → crc_bits r n b < 2 ^ 32
unfolding crc_bit crc_bits
crc_bits-lt zero r b h = h
crc_bits-lt (suc n) r b h =
    crc_bits-lt n (crc_bit r (bit b n)) b (xor_lt 32 (r * 2 % 2 ^ 32) _ (mod-lt (r * 2) (lit< tt)) (polynomial_lt (xor (bit r 31) (bit b n))))

pub crc_byte-lt : (r b : ℕ) → r < 2 ^ 32 → crc_byte r b < 2 ^ 32
unfolding crc_byte
crc_byte-lt = crc_bits-lt 8

pub crc_from-lt : (r : ℕ) (s : List ℕ) → r < 2 ^ 32 → crc_from r s < 2 ^ 32
unfolding crc_from
crc_from-lt r [] h = h
crc_from-lt r (b ∷ s) h = crc_from-lt (crc_byte r b) s (crc_byte-lt r b h)

pub crc-lt : (s : List ℕ) → crc s < 2 ^ 32
unfolding crc
crc-lt s = crc_from-lt 0xFFFF_FFFF s (lit< tt)

pub crc_from-++ : (r : ℕ) (s t : List ℕ) → crc_from r (s ++ t) ≡ crc_from (crc_from r s) t
unfolding crc_from
crc_from-++ r [] t = refl
crc_from-++ r (b ∷ s) t = crc_from-++ (crc_byte r b) s t

pub crc-++ : (s t : List ℕ) → crc (s ++ t) ≡ crc_from (crc s) t
unfolding crc
crc-++ = crc_from-++ 0xFFFF_FFFF
