-- Rows, and the codewords that fit what is known of one. A row code is given by its codewords: by the fact, of each row, that
-- it is one.
use Rattle.std.specs.Prelude.{◌≡◌, ◌≢◌, ℕ, ◌<◌, Bool, true, false, List, length, take, slice_index_or}
use Rattle.octets.specs.Octets.{Bytes, byte}

-- a row of so many bytes
pub record IsRow (width : ℕ) (row : List ℕ) : Type 0 where
  pub width_is : length row ≡ width
  pub bytes : Bytes row

-- whether the byte at a place is known
abbrev pub is_known : List Bool → ℕ → Bool
is_known known i = slice_index_or known i false

-- a codeword agrees with a row: wherever the row's byte is known, it has the same
pub record Agrees (codeword : List ℕ → Type 0) (known : List Bool) (row word : List ℕ) : Type 0 where
  pub is_codeword : codeword word
  pub same : (i : ℕ) → i < length row → is_known known i ≡ true → byte word i ≡ byte row i

-- a codeword begins with the same 191 bytes as a row
pub record Begins (codeword : List ℕ → Type 0) (row word : List ℕ) : Type 0 where
  pub is_codeword : codeword word
  pub same : take 191 word ≡ take 191 row

-- none, just one, and two or more rows are as `P` says
abbrev pub NoneIs : (List ℕ → Type 0) → Type 0
NoneIs P = (v : List ℕ) → P v → ⊥

pub record OnlyIs (P : List ℕ → Type 0) (row : List ℕ) : Type 0 where
  pub is : P row
  pub only : (v : List ℕ) → P v → v ≡ row

pub record TwoAre (P : List ℕ → Type 0) : Type 0 where
  pub one : List ℕ
  pub other : List ℕ
  pub one_is : P one
  pub other_is : P other
  pub differ : one ≢ other
