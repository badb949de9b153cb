-- The bytes of a row that came otherwise than they were sent, and yet count as known.
use Rattle.std.specs.Prelude.{ℕ, Bool, not, ◌==◌, ◌&&◌, List, count_by, zip}

-- whether a byte is one of them, by what came, what was sent, and whether it counts as known
abbrev pub is_wrong : (ℕ × ℕ) × Bool → Bool
is_wrong ((came, sent), known) = known && not (came == sent)

-- how many of a row are
abbrev pub wrong_count : (came sent : List ℕ) (known : List Bool) → ℕ
wrong_count came sent known = count_by is_wrong (zip (zip came sent) known)
