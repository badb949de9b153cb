-- What is written into a buffer, and what that leaves there.
use Rattle.std.specs.Prelude.{◌≡◌, ℕ, List, ◌++◌, length, drop}

-- these bytes, n of them, were written to the beginning of a buffer, which behind them holds what it held before
pub record Wrote (bytes before after : List ℕ) (n : ℕ) : Type 0 where
  pub len : n ≡ length bytes
  pub buffer : after ≡ bytes ++ drop (length bytes) before
