use Rattle.std.proofs.Common.{length}
use Rattle.reed_solomon.proofs.+solve.Given as goal

abbrev pub decreases-solve : goal.decreases-solve
decreases-solve l = length l.locators.now
