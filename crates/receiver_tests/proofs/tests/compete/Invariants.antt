-- Each turn takes a damage off those that are left.
use Rattle.std.proofs.Common.{length, ◌≤◌}
use Rattle.receiver_tests.proofs.tests.compete.Given as goal

abbrev pub invariant-loop-rest : goal.invariant-loop-rest
invariant-loop-rest g l = length l.rest ≤ length l.damages

abbrev pub decreases-loop-rest : goal.decreases-loop-rest
decreases-loop-rest g l = length l.rest
