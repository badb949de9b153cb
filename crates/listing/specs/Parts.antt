-- The parts of a line, of at most 20 bytes each.
use Rattle.std.specs.Prelude.{ℕ, ◌+◌, ◌*◌, ◌≤◌, List, length}
use Rattle.stream.specs.Columns.{right_aligned, left_aligned}
use Rattle.listing.specs.declared.parts.Content.{Content}
use Rattle.listing.specs.declared.parts.Content.TheVariants.{Number, Word}

-- what stands in the line
abbrev pub text_of : (columns : ℕ) → Content → List ℕ
text_of columns (Number n) = right_aligned columns n
text_of columns (Word word) = left_aligned columns word.now

-- the line has room for n parts
abbrev pub HasRoom : (n : ℕ) (line : List ℕ) → Type 0
HasRoom n line = length line + 20 * n ≤ 256

-- the line is no longer than with n parts more
abbrev pub GrownBy : (n : ℕ) (line longer : List ℕ) → Type 0
GrownBy n line longer = length longer ≤ length line + 20 * n
