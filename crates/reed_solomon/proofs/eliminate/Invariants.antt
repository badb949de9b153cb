use Rattle.std.proofs.Common.{◌≡◌, ℕ, ◌+◌, ◌<◌, ◌≤◌, bit_xor}
use Rattle.octets.specs.Octets.{byte}
use Rattle.gf256.specs.Products.{times}
use Rattle.reed_solomon.proofs.eliminate.Given as goal

abbrev pub invariant-loop-j : goal.invariant-loop-j
invariant-loop-j l = record {
  done : (k : ℕ) → k + 1 < l.j → byte l.syndromes k ≡ bit_xor (byte l.initial.syndromes (k + 1)) (times l.locator (byte l.initial.syndromes k));
  later : (k : ℕ) → l.j ≤ k + 1 → byte l.syndromes k ≡ byte l.initial.syndromes k;
}
