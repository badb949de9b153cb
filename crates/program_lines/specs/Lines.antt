-- Lines that are there for people alone.
use Rattle.std.specs.Prelude.{ℕ, ◌==◌, Bool, true, List, [], ◌∷◌}

-- it is empty, or begins with a number sign
abbrev pub passed_over : (line : List ℕ) → Bool
passed_over [] = true
passed_over (first ∷ rest) = first == 0x23
