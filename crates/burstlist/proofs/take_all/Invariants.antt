use Rattle.std.proofs.Common.{◌≡◌, ◌+◌}
use Rattle.burstlist.proofs.take_all.Given as goal

abbrev pub invariant-loop-size : goal.invariant-loop-size
invariant-loop-size g l = l.taken + l.refused + l.source.left ≡ l.initial.source.left

-- With each piece, one fewer is left to be cut.
abbrev pub decreases-loop-size : goal.decreases-loop-size
decreases-loop-size g l = l.source.left
