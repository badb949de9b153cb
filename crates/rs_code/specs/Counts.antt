-- How many places pass a test; which bytes of a row are missing, and how many are known. The contracts of `reed_solomon`
-- speak of these too.
use Rattle.std.specs.Prelude.{◌≡◌, ℕ, zero, suc, ◌<◌, ◌≤◌, Bool, true, false, cond, not, List}
use Rattle.rowcode.specs.Rows.{is_known}

-- how many of the places below n pass a test
unfoldable pub count : (ℕ → Bool) → ℕ → ℕ
count test zero = 0
count test (suc n) = cond (test n) (suc (count test n)) (count test n)

-- the byte at a place is not known
abbrev pub missing : List Bool → ℕ → Bool
missing known i = not (is_known known i)

-- how many bytes of a row are known, and how many are missing
abbrev pub known_count : List Bool → ℕ
known_count known = count (is_known known) 255

abbrev pub missing_count : List Bool → ℕ
missing_count known = count (missing known) 255

-- just the first 191 bytes are known
pub record IsFront (known : List Bool) : Type 0 where
  pub given : (i : ℕ) → i < 191 → is_known known i ≡ true
  pub rest : (i : ℕ) → 191 ≤ i → i < 255 → is_known known i ≡ false
