-- The four bytes that close a message are those of its CRC, and no others.
use Rattle.std.proofs.Common.{◌≡◌, ℕ, zero, suc, ◌+◌, ◌*◌, ◌/◌, ◌%◌, ◌^◌, ◌<◌, not, T, eqb, List, [], ◌∷◌, sym, refl, ap, ◌∙◌, arith}
use mathlib.Core.Bool.{xor}
use lib.Bits.{bit_xor, xor_self, xor_zero_r, xor_mod}
use Rattle.octets.specs.Octets.{word32}
use Rattle.octets.proofs.EachByte.{all_below, at_each}
use Rattle.crc32.specs.Crc.{crc_bit, crc_bits, crc_byte, crc_from, crc, big_endian, ClosedBy}
use Rattle.crc32.proofs.Laws.{crc_byte-lt, crc-lt, crc-++}
use Rattle.crc32.proofs.Words.{word_bytes, four}
use Rattle.crc32.proofs.Linear.{by_highest, place_lt, undo}

-- only the byte 0 leaves a multiple of 256 in a register of zeros
tested : T (all_below (λ t. not (eqb (crc_byte 0 (suc t) % 256) 0)) 255)
unfolding xor crc_bit crc_bits crc_byte
tested = tt

apart : (t : ℕ) → t < 256 → crc_byte 0 t % 256 ≡ 0 → t ≡ 0
apart zero h e = refl
apart (suc t) h e = absurd (rw e at (at_each (λ k. not (eqb (crc_byte 0 (suc k) % 256) 0)) 255 tested t (omega arith)))

-- a register's highest byte takes itself out
highest : (r b : ℕ) → r < 2 ^ 32 → b ≡ r / 2 ^ 24 → crc_byte r b ≡ r % 2 ^ 24 * 2 ^ 8
unfolding xor crc_bit crc_bits crc_byte
highest r b h e =
    rw (by_highest r b h, e, xor_self (r / 2 ^ 24)) (omega arith)

-- and no other byte leaves a multiple of 256
no_other : (r b k : ℕ) → r < 2 ^ 32 → b < 256 → crc_byte r b ≡ k * 2 ^ 8 → r ≡ b * 2 ^ 24 + k
no_other r b k h l e =
    let t : ℕ = bit_xor b (r / 2 ^ 24) in
    let low : r * 2 ^ 8 % 2 ^ 32 % 2 ^ 8 ≡ 0 = omega arith in
    let same : crc_byte r b % 2 ^ 8 ≡ crc_byte 0 t % 2 ^ 8 = rw (by_highest r b h, xor_mod (crc_byte 0 t) (r * 2 ^ 8 % 2 ^ 32) 8, low) (xor_zero_r (crc_byte 0 t % 2 ^ 8)) in
    let z = apart t (place_lt b r l h) (omega arith) in
    let o : b ≡ r / 2 ^ 24 = rw z at (sym (undo b (r / 2 ^ 24))) in
    omega (arith, highest r b h o)

closes : (c : ℕ) → c < 2 ^ 32 → crc_from c (big_endian c) ≡ 0
unfolding crc_from
closes c h =
    let c₁ : ℕ = c % 2 ^ 24 * 2 ^ 8 in
    let c₂ : ℕ = c₁ % 2 ^ 24 * 2 ^ 8 in
    let c₃ : ℕ = c₂ % 2 ^ 24 * 2 ^ 8 in
    let e₀ = highest c (c / 2 ^ 24) h refl in
    let e₁ = highest c₁ (c / 2 ^ 16 % 256) (omega arith) (omega arith) in
    let e₂ = highest c₂ (c / 2 ^ 8 % 256) (omega arith) (omega arith) in
    let e₃ = highest c₃ (c % 256) (omega arith) (omega arith) in
    let z : c₃ % 2 ^ 24 * 2 ^ 8 ≡ 0 = omega arith in
    cc

alone : (c w x y z : ℕ) → c < 2 ^ 32 → w < 256 → x < 256 → y < 256 → z < 256 → crc_from c (w ∷ x ∷ y ∷ z ∷ []) ≡ 0 → w ∷ x ∷ y ∷ z ∷ [] ≡ big_endian c
unfolding crc_from
alone c w x y z h hw hx hy hz e =
    let q : ℕ = crc_byte c w in
    let r : ℕ = crc_byte q x in
    let hq = crc_byte-lt c w h in
    let hr = crc_byte-lt q x hq in
    let e₃ = no_other (crc_byte r y) z 0 (crc_byte-lt r y hr) hz e in
    let e₂ = no_other r y (z * 2 ^ 16) hr hy (omega arith) in
    let e₁ = no_other q x (y * 2 ^ 16 + z * 2 ^ 8) hq hx (omega arith) in
    let e₀ = no_other c w (x * 2 ^ 16 + y * 2 ^ 8 + z) h hw (omega arith) in
    let is_c : c ≡ word32 (w ∷ x ∷ y ∷ z ∷ []) 0 = omega arith in
    rw is_c (sym (word_bytes w x y z hw hx hy hz))

pub closed : (s : List ℕ) → ClosedBy s (crc s)
closed s = (
  crc-++ s (big_endian (crc s)) ∙ closes (crc s) (crc-lt s),
  λ b l p e.
      let is_four = four b l in
      is_four ∙ alone (crc s) _ _ _ _ (crc-lt s) (p 0 (omega arith)) (p 1 (omega arith)) (p 2 (omega arith)) (p 3 (omega arith))
      (ap (crc_from (crc s)) (sym is_four) ∙ sym (crc-++ s b) ∙ e),
)
