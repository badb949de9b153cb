-- Bytes, bits and big-endian numbers, as the formats on the air count them.
use Rattle.std.specs.Prelude.{ℕ, ◌+◌, ◌*◌, ◌/◌, ◌%◌, ◌^◌, ◌<◌, Bool, List, length, ◌==◌, slice_index}

-- every element is a byte
abbrev pub Bytes : List ℕ → Type 0
Bytes xs = (k : ℕ) → k < length xs → slice_index xs k < 256

-- the byte at a place, 0 beyond the last
abbrev pub byte : List ℕ → ℕ → ℕ
byte xs k = slice_index xs k

-- bit k of a number is 1; bit 7 is the highest of a byte
abbrev pub bit : ℕ → ℕ → Bool
bit b k = b / 2 ^ k % 2 == 1

-- two and four bytes from a place on, as one big-endian number
abbrev pub word16 : List ℕ → ℕ → ℕ
word16 xs k = byte xs k * 256 + byte xs (k + 1)

abbrev pub word32 : List ℕ → ℕ → ℕ
word32 xs k = word16 xs k * 65536 + word16 xs (k + 2)

-- section_length: the lower four bits of a section's byte 1, with its byte 2
abbrev pub section_length : (byte_1 byte_2 : ℕ) → ℕ
section_length byte_1 byte_2 = byte_1 % 16 * 256 + byte_2
