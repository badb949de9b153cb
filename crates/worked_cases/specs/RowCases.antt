-- Worked cases of rows of RS(255,191), at whichever places the known bytes stand.
use Rattle.std.specs.Prelude.{◌≡◌, ◌≢◌, ℕ, ◌-◌, ◌<◌, Bool, true, false, List, ◌++◌, length, replicate}
use Rattle.octets.specs.Octets.{byte}
use Rattle.rowcode.specs.Answers.{Mends}
use Rattle.rowcode.specs.Rows.{IsRow, is_known}
use Rattle.rowcode.specs.declared.Mended.{Mended}
use Rattle.rowcode.specs.declared.Mended.TheVariants.{Filled, Torn, Open}
use Rattle.rs_code.specs.Codewords.{Codeword}
use Rattle.rs_code.specs.Counts.{known_count}

abbrev pub zeros : List ℕ
zeros = replicate 255 0

-- what is known of a row is its first bytes, so many
abbrev pub first_known : ℕ → List Bool
first_known n = replicate n true ++ replicate (255 - n) false

-- the known bytes of a row are all 0
abbrev pub KnownZeros : List Bool → List ℕ → Type 0
KnownZeros known row = (i : ℕ) → i < 255 → is_known known i ≡ true → byte row i ≡ 0

-- they are all 0 but one, which is 1
pub record KnownZerosButOne (known : List Bool) (row : List ℕ) : Type 0 where
  pub place : ℕ
  pub inside : place < 255
  pub here : is_known known place ≡ true
  pub one : byte row place ≡ 1
  pub others : (i : ℕ) → i < 255 → i ≢ place → is_known known i ≡ true → byte row i ≡ 0

-- the contract of mend allows this answer and this row afterwards, and no other
pub record MendGives (known : List Bool) (row : List ℕ) (answer : Mended) (after : List ℕ) : Type 0 where
  pub allowed : Mends Codeword known row after answer
  pub only : (another : Mended) (other : List ℕ) → Mends Codeword known row other another → (another ≡ answer) × (other ≡ after)

pub record RowCases : Type 0 where
  -- 191 known zeros are filled with zeros
  pub filled : (known : List Bool) (row : List ℕ) → IsRow 255 row → length known ≡ 255 → known_count known ≡ 191 → KnownZeros known row → MendGives known row Filled zeros
  -- 190 known zeros are open
  pub open_row : (known : List Bool) (row : List ℕ) → IsRow 255 row → length known ≡ 255 → known_count known ≡ 190 → KnownZeros known row → MendGives known row Open row
  -- 192 known bytes, all 0 but one 0x01, are torn
  pub torn : (known : List Bool) (row : List ℕ) → IsRow 255 row → length known ≡ 255 → known_count known ≡ 192 → KnownZerosButOne known row → MendGives known row Torn row
