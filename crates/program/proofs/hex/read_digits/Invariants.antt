use Rattle.std.proofs.Common.{◌≡◌, ◌++◌, length, vec_items}
use Rattle.program.specs.Hex.{in_hex}
use Rattle.program.proofs.hex.read_digits.Given as goal

-- what was read, written again, and what is left are the text
abbrev pub invariant-loop-left : goal.invariant-loop-left
invariant-loop-left l = in_hex (vec_items l.bytes) ++ l.left ≡ l.initial.left

abbrev pub decreases-loop-left : goal.decreases-loop-left
decreases-loop-left l = length l.left
