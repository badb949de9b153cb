-- Four bytes and the big-endian number that they are.
use Rattle.std.proofs.Common.{◌≡◌, ℕ, ◌/◌, ◌%◌, ◌^◌, ◌<◌, List, [], ◌∷◌, length, get_or, refl, arith}
use Rattle.std.proofs.lemmas.Slice.Eq.{text_from_reads}
use Rattle.octets.specs.Octets.{word32}
use Rattle.crc32.specs.Crc.{big_endian}

pub word_bytes : (a b c d : ℕ) → a < 256 → b < 256 → c < 256 → d < 256 → big_endian (word32 (a ∷ b ∷ c ∷ d ∷ []) 0) ≡ a ∷ b ∷ c ∷ d ∷ []
word_bytes a b c d ha hb hc hd =
    let w : ℕ = word32 (a ∷ b ∷ c ∷ d ∷ []) 0 in
    let is_a : w / 2 ^ 24 ≡ a = omega arith in
    let is_b : w / 2 ^ 16 % 256 ≡ b = omega arith in
    let is_c : w / 2 ^ 8 % 256 ≡ c = omega arith in
    let is_d : w % 256 ≡ d = omega arith in
    cc

-- a list of four, read one by one
pub four : (b : List ℕ) → length b ≡ 4 → b ≡ get_or b 0 0 ∷ get_or b 1 0 ∷ get_or b 2 0 ∷ get_or b 3 0 ∷ []
four b l = text_from_reads b _ l (refl, (refl, (refl, (refl, tt))))

pub word_again : (n : ℕ) → word32 (big_endian n) 0 ≡ n
word_again n = omega arith
