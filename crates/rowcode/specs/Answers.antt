-- The answers of mend, and what each says: of any code, and of all that stands above the codes.
use Rattle.std.specs.Prelude.{◌≡◌, ℕ, Bool, List, codes}
use Rattle.rowcode.specs.Rows.{Agrees, NoneIs, OnlyIs, TwoAre}
use Rattle.rowcode.specs.declared.Mended.{Mended}
use Rattle.rowcode.specs.declared.Mended.TheVariants.{Filled, Torn, Open}

-- the number of an answer
abbrev pub number_of : Mended → ℕ
number_of Filled = 1
number_of Torn = 2
number_of Open = 3

-- what an answer says of a row, of which some bytes are known, and of the row afterwards
abbrev pub Mends : (codeword : List ℕ → Type 0) → List Bool → (row after : List ℕ) → Mended → Type 0
-- filled: just one codeword agrees with the known bytes, and the row is now that
Mends codeword known row after Filled = OnlyIs (Agrees codeword known row) after
-- torn: none does, and the row stays as it was
Mends codeword known row after Torn = NoneIs (Agrees codeword known row) × (after ≡ row)
-- open: two that differ do, and the row stays as it was
Mends codeword known row after Open = TwoAre (Agrees codeword known row) × (after ≡ row)

-- what a misfit is in words
abbrev pub misfit_text : List ℕ
misfit_text = codes "the row, or what is known of it, has not the length of the row code"
