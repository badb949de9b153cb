use Rattle.sectionlist.proofs.list.Given as goal

-- With each piece, one fewer is left to be cut.
abbrev pub decreases-loop-size : goal.decreases-loop-size
decreases-loop-size g l = l.source.left
