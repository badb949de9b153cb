-- Why a text is not the digits of bytes.
use Rattle.std.specs.Prelude.{ℕ, ◌<◌, List, [], ◌∷◌}
use Rattle.program.specs.Hex.{Digits}

-- each two signs, from the first, are the digits of a byte; a sign that is left over may be any
unfoldable pub PairsAreDigits : List ℕ → Type 0
PairsAreDigits [] = Unit {0}
PairsAreDigits (_ ∷ []) = Unit {0}
PairsAreDigits (high ∷ low ∷ rest) = ((b : ℕ) × (b < 256) × Digits b high low) × PairsAreDigits rest
