use Rattle.std.proofs.Common.{◌≡◌, ℕ, ◌<◌, false}
use Rattle.octets.specs.Octets.{byte}
use Rattle.table.specs.Bursts.{known_at}
use Rattle.table.specs.Rules.{differs}
use Rattle.receiver.proofs.checking.first_unlike.Given as goal

abbrev pub invariant-loop-k : goal.invariant-loop-k
invariant-loop-k l = (j : ℕ) → j < l.k → differs (byte l.payload j) (known_at l.cells l.marks j) ≡ false
