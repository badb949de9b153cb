use Rattle.std.proofs.Common.{◌≡◌, length}
use Rattle.linkdemo.proofs.sent.application_cells.Given as goal

abbrev pub invariant-loop-placed : goal.invariant-loop-placed
invariant-loop-placed l = length l.cells.items ≡ l.size
