use Rattle.std.proofs.Common.{◌≡◌, ℕ, ◌<◌, ◌≤◌, length}
use Rattle.octets.specs.Octets.{byte}
use Rattle.table.specs.Closing.{filled_mark}
use Rattle.closing.proofs.marking.mark_filled.Given as goal

abbrev pub invariant-loop-mark : goal.invariant-loop-mark
invariant-loop-mark l = record {
  size : length l.marks ≡ length l.fn.marks;
  done : (k : ℕ) → k < l.mark-index → byte l.marks k ≡ filled_mark (byte l.fn.marks k);
  rest : (k : ℕ) → l.mark-index ≤ k → byte l.marks k ≡ byte l.fn.marks k;
}
