-- The cells of a frame once a row was put back.
use Rattle.std.specs.Prelude.{◌≡◌, ◌≢◌, ℕ, ◌<◌, List, length}
use Rattle.octets.specs.Octets.{byte}
use Rattle.geometry.specs.Cells.{cell}

-- these bytes stand in a row of the cells, and all others are as before; a byte that has no cell is left out
pub record PutBack (R row : ℕ) (bytes before after : List ℕ) : Type 0 where
  pub size : length after ≡ length before
  pub here : (c : ℕ) → c < length bytes → cell R row c < length before → byte after (cell R row c) ≡ byte bytes c
  pub others : (i : ℕ) → ((c : ℕ) → c < length bytes → i ≢ cell R row c) → byte after i ≡ byte before i
