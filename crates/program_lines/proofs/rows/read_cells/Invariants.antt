use Rattle.std.proofs.Common.{◌≡◌, ◌++◌, length, vec_items, All}
use Rattle.program_lines.specs.Cells.{HasFiller, in_signs}
use Rattle.program_lines.proofs.rows.read_cells.Given as goal

-- what was read, written again, and what is left are the text
abbrev pub invariant-loop-left : goal.invariant-loop-left
invariant-loop-left l =
    (in_signs (vec_items l.cells) ++ l.left ≡ l.initial.left) × All HasFiller (vec_items l.cells)

abbrev pub decreases-loop-left : goal.decreases-loop-left
decreases-loop-left l = length l.left
