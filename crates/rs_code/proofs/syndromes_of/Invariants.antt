use Rattle.std.proofs.Common.{◌≡◌, ℕ, ◌<◌, length}
use Rattle.octets.specs.Octets.{byte}
use Rattle.rs_code.specs.Codewords.{syndrome}
use Rattle.rs_code.proofs.syndromes_of.Given as goal

abbrev pub invariant-loop-j : goal.invariant-loop-j
invariant-loop-j l = record { long : length l.syndromes ≡ 64; are : (k : ℕ) → k < l.j → byte l.syndromes k ≡ syndrome l.row k }
