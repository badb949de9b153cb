-- What is known of a row before anything is written into it.
use Rattle.std.specs.Prelude.{ℕ, ◌≤◌, Bool, List}
use Rattle.reed_solomon.specs.Solving.{Inserted}
use Rattle.rowcode.specs.Rows.{IsRow, Agrees, NoneIs, OnlyIs, TwoAre}
use Rattle.rowcode.specs.declared.Mended.{Mended}
use Rattle.rowcode.specs.declared.Mended.TheVariants.{Filled, Torn, Open}
use Rattle.rs_code.specs.Codewords.{Codeword}
use Rattle.rs_code.specs.Counts.{missing_count}

abbrev pub Judged : List Bool → (row values : List ℕ) → Mended → Type 0
-- filled: 64 bytes are missing at most, and with the values put in, the row is the only codeword that agrees
Judged known row values Filled =
    (missing_count known ≤ 64)
    × ((after : List ℕ) → IsRow 255 after → Inserted known row after values → OnlyIs (Agrees Codeword known row) after)
-- torn and open: no codeword agrees, and two that differ
Judged known row values Torn = NoneIs (Agrees Codeword known row)
Judged known row values Open = TwoAre (Agrees Codeword known row)
