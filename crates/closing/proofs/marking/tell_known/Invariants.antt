use Rattle.std.proofs.Common.{◌≡◌, ℕ, ◌<◌, length}
use Rattle.octets.specs.Octets.{byte}
use Rattle.marks.specs.Marks.{mark_of, is_known}
use Rattle.rowcode.specs.Rows.{is_known as known_at}
use Rattle.closing.proofs.marking.tell_known.Given as goal

abbrev pub invariant-loop-k : goal.invariant-loop-k
invariant-loop-k l = record {
  size : length l.known ≡ length l.fn.known;
  done : (i : ℕ) → i < l.k → known_at l.known i ≡ is_known (mark_of (byte l.marks i));
}
