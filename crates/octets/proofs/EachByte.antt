-- What a test that computes finds at each byte holds of every byte: facts about bits by 256 cases.
use Rattle.std.proofs.Common.{ℕ, zero, suc, ◌<◌, Bool, true, ◌&&◌, T, arith}

-- the test passes at each number below n
abbrev pub all_below : (ℕ → Bool) → ℕ → Bool
all_below test zero = true
all_below test (suc n) = test n && all_below test n

pub at_each : (test : ℕ → Bool) (n : ℕ) → T (all_below test n) → (i : ℕ) → i < n → T (test i)
at_each test zero t i h = absurd (omega arith)
at_each test (suc n) t i h = grind (arith, at_each test n)
