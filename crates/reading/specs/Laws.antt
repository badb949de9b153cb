-- What is decided of a place, in words of the datagrams that stand there.
use Rattle.std.specs.Prelude.{◌≡◌, ℕ, ◌+◌, ◌<◌, ◌≤◌, ◌↔◌, true, List, length, take, drop}
use Rattle.section.specs.Datagrams.{whole}
use Rattle.reading.specs.declared.decisions.Decision.{Decision}
use Rattle.reading.specs.declared.decisions.Decision.TheVariants.{NotTold, Wrong, Incomplete, Whole}
use Rattle.reading.specs.Decisions.{can_read}

-- the n bytes from a place on are one whole datagram, they lie below the limit, and all their cells are known
pub record HoldsWhole (cells marks : List ℕ) (place n : ℕ) : Type 0 where
  pub below : place + n ≤ length cells
  pub known : (k : ℕ) → k < n → can_read cells marks (place + k) ≡ true
  pub whole : whole (take n (drop place cells)) ≡ true

-- a place is decided to hold a whole datagram of n bytes exactly if it does
abbrev pub DecidesWhole : (cells marks : List ℕ) → (place : ℕ) → Decision → Type 0
DecidesWhole cells marks place decision = (n : ℕ) → (decision ≡ Whole n) ↔ HoldsWhole cells marks place n

-- a datagram on which it is decided, whole or not, has 20 bytes at least, and they lie below the limit
abbrev pub LiesBelow : (cells : List ℕ) → (place : ℕ) → Decision → Type 0
LiesBelow cells place NotTold = Unit {0}
LiesBelow cells place Wrong = Unit {0}
LiesBelow cells place (Incomplete n) = (20 ≤ n) × (place + n ≤ length cells)
LiesBelow cells place (Whole n) = (20 ≤ n) × (place + n ≤ length cells)
