use Rattle.std.proofs.Common.{◌&&◌, eqb}
use Rattle.table.specs.Taking.{payload_mark}
use Rattle.receiver.specs.Parts.{PartIs}
use Rattle.receiver.proofs.storing.mark_all_under.Given as goal

-- the marks before i are as they are to be
abbrev pub invariant-loop-i : goal.invariant-loop-i
invariant-loop-i l = PartIs l.first l.i (λ i before. payload_mark (l.is_datagram && eqb i l.first) before) l.fn.marks l.marks
