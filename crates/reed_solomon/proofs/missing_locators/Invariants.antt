use Rattle.reed_solomon.proofs.Turns.{FoundTo}
use Rattle.reed_solomon.proofs.missing_locators.Given as goal

abbrev pub invariant-loop-i : goal.invariant-loop-i
invariant-loop-i l = FoundTo l.known l.locators.items l.i
