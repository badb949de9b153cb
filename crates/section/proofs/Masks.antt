-- Masks and bits of a byte agree, by a test at each of the 256 bytes.
use Rattle.std.proofs.Common.{◌≡◌, ℕ, ◌<◌, not, eqb, refl}
use Rattle.std.proofs.lemmas.Bool.{agree_below_at}
use lib.Bits.{bit_and}
use Rattle.section.specs.Rules.{markers_1, markers_5, scrambled_or_wrapped}

pub mask_1 : (b : ℕ) → b < 256 → eqb (bit_and b 176) 176 ≡ markers_1 b
mask_1 b = agree_below_at (λ b. eqb (bit_and b 176) 176) markers_1 256 b refl

pub mask_5 : (b : ℕ) → b < 256 → eqb (bit_and b 193) 193 ≡ markers_5 b
mask_5 b = agree_below_at (λ b. eqb (bit_and b 193) 193) markers_5 256 b refl

pub mask_plain : (b : ℕ) → b < 256 → eqb (bit_and b 62) 0 ≡ not (scrambled_or_wrapped b)
mask_plain b = agree_below_at (λ b. eqb (bit_and b 62) 0) (λ b. not (scrambled_or_wrapped b)) 256 b refl
