use Rattle.reed_solomon.proofs.Values.{DividedTo}
use Rattle.reed_solomon.proofs.divide.Given as goal

abbrev pub invariant-loop-u : goal.invariant-loop-u
invariant-loop-u l = DividedTo l.others l.locator l.initial.values l.values l.first l.last l.u
