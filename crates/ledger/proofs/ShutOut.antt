-- The promise shuts such receivers out: what it says of a row that is closed leaves no room for them.
use Rattle.std.proofs.Common.{◌≡◌, ℕ, ◌<◌, List, length, Option, refl, sym, ◌∙◌}
use Rattle.std.proofs.lemmas.Option.{same_Some, none-some}
use Rattle.octets.specs.Octets.{byte}
use Rattle.ledger.specs.Calls.{History}
use Rattle.ledger.specs.Runs.{World}
use Rattle.ledger.specs.Law.{Named}
use Rattle.ledger.specs.ShutOut.{JustClosed, ShutsOut}
use Rattle.ledger.proofs.Rows.{not_two}

module _ (m : ℕ) (codeword : List ℕ → Type 0) (sizes : ℕ → Option ℕ) (before : History) (names : List ℕ) (w : World) (end : JustClosed m codeword sizes before names w) where
  pub rows_named : (length names ≡ end.table.rows) × ((r : ℕ) → r < end.table.rows → Named m codeword end.table w r (byte names r))
  rows_named = end.kept.named before end.cells_size end.marks_size end.scratch_size end.names_size names end.table refl end.ledger

pub shuts_out : (m : ℕ) (codeword : List ℕ → Type 0) → ShutsOut m codeword
shuts_out m codeword = record {
  given_up = λ sizes before names w r end below one.
      let row = (rows_named m codeword sizes before names w end).1 r below in
      (λ is_open. not_two one.1 (row.left_open.0 is_open), λ is_torn. row.torn.0 is_torn one.0 one.1.is);
  filled_otherwise = λ sizes before names w r end below word only c b column known.
      same_Some b (byte word c) (sym known ∙ ((rows_named m codeword sizes before names w end).1 r below).holds word only c column);
  merely_named = λ sizes before names w r end below one c column unknown.
      none-some (byte one.0 c) (sym unknown ∙ ((rows_named m codeword sizes before names w end).1 r below).holds one.0 one.1 c column);
}
