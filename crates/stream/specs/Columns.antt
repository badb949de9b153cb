-- Text that is set in columns.
use Rattle.std.specs.Prelude.{ℕ, ◌-◌, List, ◌++◌, length, replicate, decimal}

-- blanks, then the number in decimal
abbrev pub right_aligned : (columns number : ℕ) → List ℕ
right_aligned columns number = replicate (columns - length (decimal number)) 32 ++ decimal number

-- the word, then blanks
abbrev pub left_aligned : (columns : ℕ) (word : List ℕ) → List ℕ
left_aligned columns word = word ++ replicate (columns - length word) 32
