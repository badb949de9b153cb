-- The rows of a table, and the codewords that agree with what is known of one.
use Rattle.std.specs.Prelude.{◌≡◌, ℕ, ◌<◌, List, Option, Some}
use Rattle.octets.specs.Octets.{byte}
use Rattle.geometry.specs.Cells.{width, cell}
use Rattle.rowcode.specs.Rows.{NoneIs, OnlyIs, TwoAre}

-- a codeword agrees with row r: it has every byte that is known of a cell of the row
pub record AgreesInRow (m : ℕ) (codeword : List ℕ → Type 0) (R : ℕ) (at : ℕ → Option ℕ) (r : ℕ) (word : List ℕ) : Type 0 where
  pub is_codeword : codeword word
  pub same : (c b : ℕ) → c < width m → at (cell R r c) ≡ Some b → byte word c ≡ b

-- just this codeword agrees with row r
abbrev pub OnlyAgrees : (m : ℕ) → (codeword : List ℕ → Type 0) → (R : ℕ) → (at : ℕ → Option ℕ) → (r : ℕ) → (word : List ℕ) → Type 0
OnlyAgrees m codeword R at r word = OnlyIs (AgreesInRow m codeword R at r) word

-- just one does, none does, or two or more do
abbrev pub OneAgrees : (m : ℕ) → (codeword : List ℕ → Type 0) → (R : ℕ) → (at : ℕ → Option ℕ) → (r : ℕ) → Type 0
OneAgrees m codeword R at r = (word : List ℕ) × OnlyAgrees m codeword R at r word

abbrev pub NoneAgrees : (m : ℕ) → (codeword : List ℕ → Type 0) → (R : ℕ) → (at : ℕ → Option ℕ) → (r : ℕ) → Type 0
NoneAgrees m codeword R at r = NoneIs (AgreesInRow m codeword R at r)

abbrev pub SeveralAgree : (m : ℕ) → (codeword : List ℕ → Type 0) → (R : ℕ) → (at : ℕ → Option ℕ) → (r : ℕ) → Type 0
SeveralAgree m codeword R at r = TwoAre (AgreesInRow m codeword R at r)
