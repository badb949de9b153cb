-- The table of logarithms: but for its first entry, the place of each byte among the powers of 2.
use Rattle.std.proofs.Common.{◌≡◌, ℕ, zero, suc, ◌<◌, List, ◌∷◌, map, get_or, arith, not-suc-le-zero}
use Rattle.std.specs.List.{range_with_len}
use Rattle.std.proofs.lemmas.List.FromFn.{get_or-map-range_with_len}
use Rattle.gf256.proofs.Tables.{place, powers, log}

-- the places of the bytes from 1 in the list ps, below a 0
abbrev pub places : List ℕ → List ℕ
places ps = 0 ∷ map (place ps) (range_with_len 1 255)

-- each entry but the first is the logarithm
pub entry : (a : ℕ) → 0 < a → a < 256 → get_or (places powers) a 0 ≡ log a
unfolding log
entry zero p h = absurd (not-suc-le-zero p)
entry (suc a) p h = get_or-map-range_with_len (place powers) 1 255 a (suc a) 0 (omega arith) (omega arith)
