use Rattle.std.proofs.Common.{◌↔◌, length}
use Rattle.section_vectors.specs.Reasons.{PairsAreDigits}
use Rattle.section_vectors.proofs.pairs_are_digits.Given as goal

-- what is left decides
abbrev pub invariant-loop-left : goal.invariant-loop-left
invariant-loop-left l = PairsAreDigits l.initial.left ↔ PairsAreDigits l.left

abbrev pub decreases-loop-left : goal.decreases-loop-left
decreases-loop-left l = length l.left
