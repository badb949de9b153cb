-- The register's step is linear: what is added to the register, with its top bits added to the message, is added to the result.
use Rattle.std.proofs.Common.{◌≡◌, ℕ, zero, suc, ◌+◌, ◌*◌, ◌/◌, ◌%◌, ◌^◌, ◌<◌, Bool, List, map, get_or, sym, refl, mod-eq_of_lt, mul_assoc, pow-suc, zero-add, mul-one, arith, pow_pos, pow-add, shr-shr}
use mathlib.Core.Bool.{xor}
use native.Mathlib.Nat.{mul-div-mul_right}
use lib.Bits.{bit_xor, xor_assoc, xor_comm, xor_self, xor_zero_r, xor_block, xor_mod, xor_lt}
use Rattle.std.proofs.lemmas.Nat.Bits.{bit_at_xor, bit_at-lt}
use Rattle.std.specs.List.{range_with_len}
use Rattle.std.proofs.lemmas.List.FromFn.{get_or-map-range_with_len}
use Rattle.octets.specs.Octets.{bit}
use Rattle.crc32.specs.Crc.{crc_bit, crc_bits, crc_byte}

bit-bit_xor : (a b k : ℕ) → bit (bit_xor a b) k ≡ xor (bit a k) (bit b k)
unfolding xor
bit-bit_xor a b k = grind (arith, bit_at_xor a b k, bit_at-lt a k, bit_at-lt b k)

double_xor : (a b : ℕ) → bit_xor a b * 2 % 2 ^ 32 ≡ bit_xor (a * 2 % 2 ^ 32) (b * 2 % 2 ^ 32)
double_xor a b = grind (arith, xor_block 1 a b 0 0, xor_mod (a * 2) (b * 2) 32)

cancel : (a b c : Bool) → xor (xor a c) (xor b c) ≡ xor a b
unfolding xor
cancel a b c = grind arith

add_bit : (r x : ℕ) (new : Bool) → crc_bit (bit_xor r x) (xor new (bit x 31)) ≡ bit_xor (crc_bit r new) (x * 2 % 2 ^ 32)
unfolding crc_bit
add_bit r x new =
    rw (bit-bit_xor r x 31, cancel (bit r 31) new (bit x 31), double_xor r x)
    (grind (arith, xor_assoc, xor_comm))

-- bit n of the highest byte is on top once the j bits above it are gone
on_top : (x n j : ℕ) → n + j ≡ 7 → bit (x / 2 ^ 24) n ≡ bit (x * 2 ^ j % 2 ^ 32) 31
on_top x n j e =
    let s : 24 + n + j ≡ 31 = omega arith in
    let d = mul-div-mul_right x (2 ^ (24 + n)) (pow_pos j) in
    grind (arith, shr-shr x 24 n, pow-add 2 (24 + n) j, s, d)

-- n bits of the byte are to come, and j are gone
add_bits : (x n j r b : ℕ) → n + j ≡ 8
    → crc_bits (bit_xor r (x * 2 ^ j % 2 ^ 32)) n (bit_xor b (x / 2 ^ 24)) ≡ bit_xor (crc_bits r n b) (x * 2 ^ 8 % 2 ^ 32)
unfolding crc_bits
add_bits x zero j r b e = let f : j ≡ 8 = omega arith in rw f
add_bits x (suc n) j r b e =
    let twice : x * 2 ^ j % 2 ^ 32 * 2 % 2 ^ 32 ≡ x * 2 ^ suc j % 2 ^ 32 = rw (pow-suc 2 j, ← mul_assoc x (2 ^ j) 2) (omega arith) in
    rw (bit-bit_xor b (x / 2 ^ 24) n, on_top x n j (omega arith), add_bit r (x * 2 ^ j % 2 ^ 32) (bit b n), twice)
    (add_bits x n (suc j) (crc_bit r (bit b n)) b (omega arith))

pub undo : (a b : ℕ) → bit_xor (bit_xor a b) b ≡ a
undo a b = simp (xor_assoc, xor_self, xor_zero_r)

-- the byte with the register's highest byte added says what is added to the rest of the register
pub by_highest : (r b : ℕ) → r < 2 ^ 32 → crc_byte r b ≡ bit_xor (crc_byte 0 (bit_xor b (r / 2 ^ 24))) (r * 2 ^ 8 % 2 ^ 32)
unfolding crc_byte
by_highest r b h =
    let e = add_bits r 8 0 0 (bit_xor b (r / 2 ^ 24)) refl in
    rw (mul-one, mod-eq_of_lt h, undo b (r / 2 ^ 24)) at e

pub place_lt : (b r : ℕ) → b < 256 → r < 2 ^ 32 → bit_xor b (r / 2 ^ 24) < 256
place_lt b r h k = xor_lt 8 b (r / 2 ^ 24) h (omega arith)

-- what each of the 256 bytes leaves in a register of zeros
abbrev pub table : List ℕ
table = map (crc_byte 0) (range_with_len 0 256)

pub by_table : (b r : ℕ) → b < 256 → r < 2 ^ 32 → bit_xor (get_or table (bit_xor b (r / 2 ^ 24)) 0) (r * 2 ^ 8 % 2 ^ 32) ≡ crc_byte r b
by_table b r h k =
    let t : ℕ = bit_xor b (r / 2 ^ 24) in
    rw (get_or-map-range_with_len (crc_byte 0) 0 256 t t 0 (place_lt b r h k) (zero-add t)) (sym (by_highest r b k))
