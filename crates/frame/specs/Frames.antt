-- A frame: its datagrams, laid end to end into the cells, with padding behind them and a codeword in each row.
use Rattle.std.specs.Prelude.{◌≡◌, ◌≢◌, ℕ, ◌+◌, ◌<◌, ◌≤◌, true, List, [], ◌∷◌, length, map}
use Rattle.std.specs.List.{range_with_len, Contains, concat}
use Rattle.octets.specs.Octets.{Bytes, byte}
use Rattle.geometry.specs.Cells.{width, table_size, frame_size, cell, row_bytes}
use Rattle.section.specs.Datagrams.{whole}

-- the datagrams of a frame, in their order, and all its cells
pub record Frame : Type 0 where
  pub datagrams : List (List ℕ)
  pub cells : List ℕ

-- the datagrams end to end, and E, the address after the last
abbrev pub laid : List (List ℕ) → List ℕ
laid ds = concat ds

abbrev pub end_of : Frame → ℕ
end_of f = length (laid f.datagrams)

-- each datagram with its address, the first at a
abbrev pub placed_from : (a : ℕ) → List (List ℕ) → List (ℕ × List ℕ)
placed_from a [] = []
placed_from a (d ∷ ds) = (a, d) ∷ placed_from (a + length d) ds

-- the frame has this datagram at this address
abbrev pub HasDatagram : Frame → (address : ℕ) → List ℕ → Type 0
HasDatagram f address d = Contains (placed_from 0 f.datagrams) (address, d)

-- row r of the cells, and column c
abbrev pub row_of : (m R : ℕ) → List ℕ → (r : ℕ) → List ℕ
row_of m R cells r = row_bytes R cells r (width m)

abbrev pub column_of : (R : ℕ) → List ℕ → (c : ℕ) → List ℕ
column_of R cells c = map (λ r. byte cells (cell R r c)) (range_with_len 0 R)

-- these can be the datagrams of a frame with R rows: there is one at least, each is one whole datagram, and together they fit
-- the application table
pub record Fit (R : ℕ) (datagrams : List (List ℕ)) : Type 0 where
  pub some : datagrams ≢ []
  pub each_whole : (d : List ℕ) → Contains datagrams d → whole d ≡ true
  pub bytes : (d : List ℕ) → Contains datagrams d → Bytes d
  pub fit : length (laid datagrams) ≤ table_size R

-- lawful, for R rows, m check columns and a set of codewords
pub record Lawful (m : ℕ) (codeword : List ℕ → Type 0) (R : ℕ) (f : Frame) : Type 0 where
  pub datagrams : Fit R f.datagrams
  pub size : length f.cells ≡ frame_size m R
  pub bytes : Bytes f.cells
  -- the datagrams end to end from address 0
  pub laid_out : (a : ℕ) → a < end_of f → byte f.cells a ≡ byte (laid f.datagrams) a
  -- zeros from E on
  pub padding : (a : ℕ) → end_of f ≤ a → a < table_size R → byte f.cells a ≡ 0
  pub codewords : (r : ℕ) → r < R → codeword (row_of m R f.cells r)
