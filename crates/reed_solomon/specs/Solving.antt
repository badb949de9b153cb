-- What is solved for the bytes that are missing of a row: values which, at their locators, make given syndromes.
use Rattle.std.specs.Prelude.{◌≡◌, ◌≢◌, ℕ, ◌-◌, ◌<◌, ◌≤◌, Bool, true, false, List, length}
use Rattle.octets.specs.Octets.{byte}
use Rattle.gf256.specs.Products.{times, power, g}
use Rattle.gf256.specs.Sums.{field_sum}
use Rattle.rs_code.specs.Counts.{count, missing, missing_count}

-- the j-th syndrome that n bytes make: the sum over u below n of the value y_u times the j-th power of its locator x_u
unfoldable pub erasure_syndrome : (x y : ℕ → ℕ) → ℕ → ℕ → ℕ
erasure_syndrome x y n j = field_sum (λ u. times (y u) (power (x u) j)) n

-- values y, at n locators x, make the first `count` of these syndromes
abbrev pub Solves : (x y syndromes : ℕ → ℕ) → (n count : ℕ) → Type 0
Solves x y syndromes n count = (j : ℕ) → j < count → erasure_syndrome x y n j ≡ syndromes j

-- no bytes do
abbrev pub NoneSolve : (x syndromes : ℕ → ℕ) → (n count : ℕ) → Type 0
NoneSolve x syndromes n count = (y : ℕ → ℕ) → ((u : ℕ) → y u < 256) → Solves x y syndromes n count → ⊥

-- the first n locators differ
abbrev pub Apart : (ℕ → ℕ) → ℕ → Type 0
Apart x n = (i j : ℕ) → i < j → j < n → x i ≢ x j

-- the locators of the bytes that are missing, in the order of their places; there are 64 at most
pub record LocatorsOf (known : List Bool) (locators : List ℕ) : Type 0 where
  pub few : length locators ≤ 64
  pub count_is : length locators ≡ missing_count known
  pub at : (k : ℕ) → k < 255 → missing known k ≡ true → byte locators (count (missing known) k) ≡ power g (254 - k)

-- the bytes of a row that are known, and zeros for the others
pub record KnownBytes (known : List Bool) (row bytes : List ℕ) : Type 0 where
  pub here : (k : ℕ) → k < 255 → missing known k ≡ false → byte bytes k ≡ byte row k
  pub not_here : (k : ℕ) → k < 255 → missing known k ≡ true → byte bytes k ≡ 0

-- the values stand, in their order, where bytes were missing, and all others stayed
pub record Inserted (known : List Bool) (row after values : List ℕ) : Type 0 where
  pub kept : (k : ℕ) → k < 255 → missing known k ≡ false → byte after k ≡ byte row k
  pub filled : (k : ℕ) → k < 255 → missing known k ≡ true → byte after k ≡ byte values (count (missing known) k)
