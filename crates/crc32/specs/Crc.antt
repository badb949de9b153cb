-- CRC_32: a register of 32 bits takes a message bit by bit, and keeps its remainder by the polynomial 0x04C1_1DB7.
use Rattle.std.specs.Prelude.{◌≡◌, ℕ, zero, suc, ◌*◌, ◌/◌, ◌%◌, ◌^◌, Bool, cond, List, [], ◌∷◌, ◌++◌, length, bit_xor}
use Rattle.std.specs.Bool.{xor}
use Rattle.octets.specs.Octets.{Bytes, bit}

-- one bit: the register loses its top bit, and where that bit and the new one differ, the polynomial is added
unfoldable pub crc_bit : ℕ → Bool → ℕ
crc_bit register new = bit_xor (register * 2 % 2 ^ 32) (cond (xor (bit register 31) new) 0x04C1_1DB7 0)

-- the n lowest bits of a byte, the highest of them first
unfoldable pub crc_bits : ℕ → ℕ → ℕ → ℕ
crc_bits register zero b = register
crc_bits register (suc n) b = crc_bits (crc_bit register (bit b n)) n b

-- one byte, from bit 7 to bit 0
unfoldable pub crc_byte : ℕ → ℕ → ℕ
crc_byte register b = crc_bits register 8 b

-- the bytes of a message, one after the other
unfoldable pub crc_from : ℕ → List ℕ → ℕ
crc_from register [] = register
crc_from register (b ∷ bs) = crc_from (crc_byte register b) bs

-- the register after a message, where at first all of its bits are 1
unfoldable pub crc : List ℕ → ℕ
crc s = crc_from 0xFFFF_FFFF s

-- the four bytes of a number of 32 bits, the highest first
abbrev pub big_endian : ℕ → List ℕ
big_endian n = n / 2 ^ 24 ∷ n / 2 ^ 16 % 256 ∷ n / 2 ^ 8 % 256 ∷ n % 256 ∷ []

-- s followed by the four bytes of c gives 0, and followed by no other four bytes
abbrev pub ClosedBy : List ℕ → ℕ → Type 0
ClosedBy s c = (crc (s ++ big_endian c) ≡ 0) × ((b : List ℕ) → length b ≡ 4 → Bytes b → crc (s ++ b) ≡ 0 → b ≡ big_endian c)
