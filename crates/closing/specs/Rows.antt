-- One row, as close works on it: what its marks say is known, what they become, and what stays of all other rows.
use Rattle.std.specs.Prelude.{◌≡◌, ◌≢◌, ℕ, ◌<◌, Bool, List, length}
use Rattle.octets.specs.Octets.{byte}
use Rattle.geometry.specs.Cells.{width, row_at, row_bytes}
use Rattle.marks.specs.declared.Mark.TheVariants.{Unknown}
use Rattle.marks.specs.Marks.{mark_byte, mark_of, is_known as mark_is_known}
use Rattle.rowcode.specs.Answers.{Mends}
use Rattle.rowcode.specs.declared.Mended.{Mended}
use Rattle.rowcode.specs.declared.Mended.TheVariants.{Filled, Torn, Open}
use Rattle.rowcode.specs.Rows.{is_known}
use Rattle.table.specs.Closing.{filled_mark, RowClosed}

-- these bytes of a row are known, by its marks
pub record KnownBy (marks : List ℕ) (known : List Bool) : Type 0 where
  pub size : length known ≡ length marks
  pub each : (k : ℕ) → k < length marks → is_known known k ≡ mark_is_known (mark_of (byte marks k))

-- what a mark becomes, by the answer of its row
abbrev pub mark_by : Mended → (before : ℕ) → ℕ
mark_by Filled before = filled_mark before
mark_by Torn before = mark_byte Unknown
mark_by Open before = before

-- each mark has become what f makes of it
pub record EachMarked (f : ℕ → ℕ) (before after : List ℕ) : Type 0 where
  pub size : length after ≡ length before
  pub each : (k : ℕ) → k < length before → byte after k ≡ f (byte before k)

-- the cells of all rows but r are as before
abbrev pub OthersStay : (R r : ℕ) → (before after : List ℕ) → Type 0
OthersStay R r before after = (i : ℕ) → row_at R i ≢ r → byte after i ≡ byte before i

-- what mend makes of the bytes of a row, as one fact
pub record BytesMended (codeword : List ℕ → Type 0) (known : List Bool) (before after : List ℕ) (answer : Mended) : Type 0 where
  pub mends : Mends codeword known before after answer

-- what it makes of row r of the cells; all other rows stay. Unfoldable, so that it is one fact to a tactic
unfoldable pub RowMended : (m : ℕ) → (codeword : List ℕ → Type 0) → (R r : ℕ) → (known : List Bool) → (before after : List ℕ) → Mended → Type 0
RowMended m codeword R r known before after answer =
    Mends codeword known (row_bytes R before r (width m)) (row_bytes R after r (width m)) answer
    × OthersStay R r before after

-- the same of a row of which its marks say what is known
pub record MarkedRowMended (m : ℕ) (codeword : List ℕ → Type 0) (R r : ℕ) (marks before after : List ℕ) (answer : Mended) : Type 0 where
  pub known : List Bool
  pub by_marks : KnownBy marks known
  pub mended : RowMended m codeword R r known before after answer

-- row r was closed with this answer, and all other rows stay. Unfoldable as well
unfoldable pub OneClosed : (m : ℕ) → (codeword : List ℕ → Type 0) → (R r : ℕ) → (cells marks cells_after marks_after : List ℕ) → Mended → Type 0
OneClosed m codeword R r cells marks cells_after marks_after answer =
    RowClosed m codeword R cells marks cells_after marks_after r answer
    × OthersStay R r cells cells_after
    × OthersStay R r marks marks_after
