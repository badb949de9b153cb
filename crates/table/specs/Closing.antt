-- Close mends every row of a burst in the scratch row, which other services use next, and gives each row a name: the number of the
-- answer that mend gave of it. When it says no, and what it leaves of the buffers, whatever these held before.
use Rattle.std.specs.Prelude.{◌≡◌, ℕ, ◌<◌, not, ◌||◌, cond, List, [], ◌∷◌, length, replicate, count_by, ◌==◌}
use Rattle.octets.specs.Octets.{byte}
use Rattle.geometry.specs.Cells.{width, cell}
use Rattle.geometry.specs.Sizes.{buffers_rule}
use Rattle.marks.specs.declared.Mark.TheVariants.{Unknown, Filled as FilledMark}
use Rattle.marks.specs.Marks.{mark_byte, mark_of, is_known}
use Rattle.refusal.specs.declared.Refusal.TheVariants.{WorkBuffers}
use Rattle.refusal.specs.Rules.{Verdict, when}
use Rattle.rowcode.specs.Answers.{number_of}
use Rattle.rowcode.specs.declared.Mended.{Mended}
use Rattle.rowcode.specs.declared.Mended.TheVariants.{Filled, Torn, Open}
use Rattle.table.specs.Bursts.{known_at}
use Rattle.table.specs.Rows.{OnlyAgrees, NoneAgrees, SeveralAgree}

-- 3: the scratch row is not 255 bytes, or there is not one name for each row
abbrev pub work_rule : (R scratch names : ℕ) → Verdict
work_rule R scratch names = when (not (scratch == 255) || not (names == R)) WorkBuffers

-- close, with buffers of so many bytes: 2, then 3
abbrev pub close_rules : (m R cells marks scratch names : ℕ) → List Verdict
close_rules m R cells marks scratch names = buffers_rule m R cells marks ∷ work_rule R scratch names ∷ []

-- row r of a buffer holds these bytes, by their columns
abbrev pub RowHolds : (m R : ℕ) → (buffer : List ℕ) → (r : ℕ) → (ℕ → ℕ) → Type 0
RowHolds m R buffer r bytes = (c : ℕ) → c < width m → byte buffer (cell R r c) ≡ bytes c

-- it holds what it held
abbrev pub RowStays : (m R : ℕ) → (before after : List ℕ) → (r : ℕ) → Type 0
RowStays m R before after r = RowHolds m R after r (λ c. byte before (cell R r c))

-- the mark of a cell of a row that is filled: 4 if the cell was unknown, else as before
abbrev pub filled_mark : (before : ℕ) → ℕ
filled_mark before = cond (is_known (mark_of before)) before (mark_byte FilledMark)

-- what close makes of row r, by the answer of mend
abbrev pub RowClosed : (m : ℕ) → (codeword : List ℕ → Type 0) → (R : ℕ) → (cells marks cells_after marks_after : List ℕ) → (r : ℕ) → Mended → Type 0
-- filled: just one codeword agrees with what is known, and the row holds it; what was unknown is marked as filled
RowClosed m codeword R cells marks cells_after marks_after r Filled =
    (word : List ℕ) × (OnlyAgrees m codeword R (known_at cells marks) r word
    × RowHolds m R cells_after r (λ c. byte word c)
    × RowHolds m R marks_after r (λ c. filled_mark (byte marks (cell R r c))))
-- torn: none agrees; the cells stay, and nothing is known of them any more
RowClosed m codeword R cells marks cells_after marks_after r Torn =
    NoneAgrees m codeword R (known_at cells marks) r
    × RowStays m R cells cells_after r
    × RowHolds m R marks_after r (λ c. mark_byte Unknown)
-- open: two or more agree; all stays
RowClosed m codeword R cells marks cells_after marks_after r Open =
    SeveralAgree m codeword R (known_at cells marks) r
    × RowStays m R cells cells_after r
    × RowStays m R marks marks_after r

-- the buffers were closed: every row is as its name says, and the scratch row is all zero
pub record Closed (m : ℕ) (codeword : List ℕ → Type 0) (R : ℕ) (cells marks cells_after marks_after scratch_after names_after : List ℕ) : Type 0 where
  pub cells_size : length cells_after ≡ length cells
  pub marks_size : length marks_after ≡ length marks
  pub names_size : length names_after ≡ R
  pub each_row : (r : ℕ) → r < R → (answer : Mended) × ((byte names_after r ≡ number_of answer) × RowClosed m codeword R cells marks cells_after marks_after r answer)
  pub scratch_is_0 : scratch_after ≡ replicate 255 0

-- how many rows have this answer's name
abbrev pub rows_named : (names : List ℕ) → Mended → ℕ
rows_named names answer = count_by (λ name. name == number_of answer) names

-- three tallies, of the rows filled, torn and open, count the names
pub record Tallied (names : List ℕ) (tallies : ℕ × ℕ × ℕ) : Type 0 where
  pub filled : tallies.0 ≡ rows_named names Filled
  pub torn : tallies.1 ≡ rows_named names Torn
  pub left_open : tallies.2 ≡ rows_named names Open
