-- The arguments of a program that knows none but `--help`.
use Rattle.std.specs.Prelude.{◌≡◌, ℕ, List, Some, None, codes, Option}
use Rattle.std.specs.Borrow.{Bor}

-- the first argument is `--help`, and there is no second one
abbrev pub LoneHelp : (first second : Option (Bor (List ℕ))) → Type 0
LoneHelp None second = ⊥
LoneHelp (Some word) second = (word.now ≡ codes "--help") × (second ≡ None)
