use Rattle.std.proofs.Common.{◌≡◌, ℕ, ◌<◌, ◌≤◌, true, false, length}
use Rattle.octets.specs.Octets.{byte}
use Rattle.rs_code.specs.Counts.{missing}
use Rattle.reed_solomon.proofs.known_bytes.Given as goal

abbrev pub invariant-loop-i : goal.invariant-loop-i
invariant-loop-i l = record {
  long : length l.bytes ≡ 255;
  here : (k : ℕ) → k < l.i → missing l.known k ≡ false → byte l.bytes k ≡ byte l.row k;
  not_here : (k : ℕ) → k < l.i → missing l.known k ≡ true → byte l.bytes k ≡ 0;
  later : (k : ℕ) → l.i ≤ k → byte l.bytes k ≡ 0;
}
