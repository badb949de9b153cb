use Rattle.reed_solomon.proofs.Turns.{InsertedTo}
use Rattle.reed_solomon.proofs.insert.Given as goal

abbrev pub invariant-loop-i : goal.invariant-loop-i
invariant-loop-i l = InsertedTo l.known l.initial.row l.row l.values l.i l.u
