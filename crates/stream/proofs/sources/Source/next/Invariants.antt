use Rattle.std.proofs.Common.{◌≡◌, ◌+◌, ◌-◌, cond, length}
use Rattle.std.specs.Io.{StartsWith}
use Rattle.stream.proofs.sources.Source.next.Given as goal

abbrev pub invariant-loop-size : goal.invariant-loop-size
invariant-loop-size g l = record {
  keeps : StartsWith l.self.bytes l.initial.self.bytes;
  left : l.self.left ≡ l.initial.self.left;
}

-- Where the input is read on, it ends or more of it is held.
abbrev pub decreases-loop-size : goal.decreases-loop-size
decreases-loop-size g l = (4098 - length l.self.bytes) + cond l.self.ended 0 1
