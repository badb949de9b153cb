-- A burst of either code answers as its own take does.
use Rattle.bursttake.proofs.bursts.OpenBurst.take.Goals as goal

pub returns-in-ReedSolomon-clause-answer : goal.returns-in-ReedSolomon-clause-answer
returns-in-ReedSolomon-clause-answer c = rw c.in-ReedSolomon.is c.take.ensures.answer

pub returns-in-Bare-clause-answer : goal.returns-in-Bare-clause-answer
returns-in-Bare-clause-answer c = rw c.in-Bare.is c.take-in-Bare.ensures.answer
