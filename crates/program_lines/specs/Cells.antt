-- Rows as a line has them: two signs for each cell.
use Rattle.std.specs.Prelude.{◌≡◌, ◌≢◌, ℕ, ◌<◌, ◌/◌, ◌%◌, Bool, true, false, ◌⊎◌, List, [], ◌∷◌, ◌++◌, All, codes}
use Rattle.program.specs.Hex.{hex_digit}
use Rattle.program_lines.specs.declared.rows.Cell.{Cell}

-- where the byte is not known, the row has 0xAA
abbrev pub HasFiller : Cell → Type 0
HasFiller cell = cell.known ≡ false → cell.byte ≡ 0xAA

-- the digits of a known byte, two dots for one that is not
abbrev pub signs : (known : Bool) (byte : ℕ) → List ℕ
signs true b = hex_digit (b / 16) ∷ hex_digit (b % 16) ∷ []
signs false b = codes ".."

-- a cell that two signs stand for
abbrev pub Signs : (cell : Cell) (first second : ℕ) → Type 0
Signs cell first second = (signs cell.known cell.byte ≡ first ∷ second ∷ []) × HasFiller cell

-- the signs of all cells, in their order
unfoldable pub in_signs : List Cell → List ℕ
in_signs [] = []
in_signs (cell ∷ cells) = signs cell.known cell.byte ++ in_signs cells

-- the cells whose signs make up a text
abbrev pub Spells : (text : List ℕ) → List Cell → Type 0
Spells text cells = (text ≡ in_signs cells) × All HasFiller cells

-- the cells that a word stands for: none for a lone '-', else those whose signs make it up, and there are some
abbrev pub StandsFor : (word : List ℕ) → List Cell → Type 0
StandsFor word cells = ((word ≡ codes "-") × (cells ≡ [])) ⊎ (Spells word cells × (word ≢ []))

-- there is no cell with a byte, and there are no cells with bytes, of which this holds
abbrev pub NoCell : (Cell → Type 0) → Type 0
NoCell P = (cell : Cell) → cell.byte < 256 → P cell → ⊥

abbrev pub NoCells : (List Cell → Type 0) → Type 0
NoCells P = (cells : List Cell) → All (λ cell. cell.byte < 256) cells → P cells → ⊥
