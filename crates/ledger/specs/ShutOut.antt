-- What the promise shuts out: receivers whose rows are mended wrong, though each of their calls ends well.
use Rattle.std.specs.Prelude.{◌≡◌, ◌≢◌, ℕ, ◌<◌, List, ◌∷◌, Option, Some, None}
use Rattle.octets.specs.Octets.{byte}
use Rattle.geometry.specs.Cells.{width, cell}
use Rattle.rowcode.specs.Answers.{number_of as name_of}
use Rattle.rowcode.specs.declared.Mended.TheVariants.{Torn, Open}
use Rattle.table.specs.Tables.{Table}
use Rattle.table.specs.Bursts.{known_at}
use Rattle.table.specs.Rows.{OneAgrees, OnlyAgrees}
use Rattle.ledger.specs.Calls.{close, closed, History, noted, calls}
use Rattle.ledger.specs.Ledgers.{Ledger}
use Rattle.ledger.specs.Runs.{World}
use Rattle.ledger.specs.Law.{Kept}

-- a close that was not refused has led to this world and given these names, and what is promised holds
pub record JustClosed (m : ℕ) (codeword : List ℕ → Type 0) (sizes : ℕ → Option ℕ) (before : History) (names : List ℕ) (w : World) : Type 0 where
  pub cells_size : ℕ
  pub marks_size : ℕ
  pub scratch_size : ℕ
  pub names_size : ℕ
  pub kept : Kept m codeword sizes (noted (close cells_size marks_size scratch_size names_size) (closed names) ∷ before) w
  -- the ledger before it
  pub table : Table
  pub ledger : Ledger m codeword sizes (calls before) table

-- After such a close, of a row with which just one codeword agreed before:
pub record ShutsOut (m : ℕ) (codeword : List ℕ → Type 0) : Type 0 where
  -- it is not named open, nor torn: by a mender that calls every row open it would be
  pub given_up : (sizes : ℕ → Option ℕ) (before : History) (names : List ℕ) (w : World) (r : ℕ) (end : JustClosed m codeword sizes before names w)
      → r < end.table.rows → OneAgrees m codeword end.table.rows end.table.at r
      → (byte names r ≢ name_of Open) × (byte names r ≢ name_of Torn)
  -- no cell is known with another byte than the codeword's: by a mender that fills with zeros it would be, wherever that has another
  pub filled_otherwise : (sizes : ℕ → Option ℕ) (before : History) (names : List ℕ) (w : World) (r : ℕ) (end : JustClosed m codeword sizes before names w)
      → r < end.table.rows → (word : List ℕ) → OnlyAgrees m codeword end.table.rows end.table.at r word
      → (c b : ℕ) → c < width m → known_at w.cells w.marks (cell end.table.rows r c) ≡ Some b → b ≡ byte word c
  -- and none is unknown: by a close that mends row 0 alone, and merely names the others, it would be
  pub merely_named : (sizes : ℕ → Option ℕ) (before : History) (names : List ℕ) (w : World) (r : ℕ) (end : JustClosed m codeword sizes before names w)
      → r < end.table.rows → OneAgrees m codeword end.table.rows end.table.at r
      → (c : ℕ) → c < width m → known_at w.cells w.marks (cell end.table.rows r c) ≢ None
