use Rattle.std.proofs.Common.{length, ◌-◌}
use Rattle.reading.specs.Reading.{GoesOn}
use Rattle.reading.proofs.stops.stop_from.Given as goal

abbrev pub invariant-loop-place : goal.invariant-loop-place
invariant-loop-place l = GoesOn l.cells l.marks l.fn.place l.place

abbrev pub decreases-loop-place : goal.decreases-loop-place
decreases-loop-place l = length l.cells - l.place
