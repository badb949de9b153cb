use Rattle.std.proofs.Common.{◌≡◌, ◌&&◌, eqb, ap, ◌∙◌, arith, rules}
use Rattle.octets.specs.Octets.{byte}
use Rattle.table.specs.Taking.{payload_mark}
use Rattle.receiver.proofs.Written.{one_more}
use Rattle.receiver.proofs.storing.mark_all_under.Goals as goal
use Rattle.receiver.proofs.storing.mark_all_under.Goals.{then-is_datagram, else-is_datagram}

pub loop-i-preserved : goal.loop-i-preserved
loop-i-preserved c =
    let start : c.if-is_datagram.mark_under ≡ (c.args.is_datagram && eqb c.loop-i.i c.args.first)
    = elim c.if-is_datagram.branch [ then-is_datagram w ↦ search rules | else-is_datagram w ↦ search rules ] in
    one_more c.args.first c.loop-i.i _ _ c.loop-i.marks _ c.loop-i.invariant (omega arith) (omega arith)
    (c.mark_under.ensures ∙ ap (λ is. payload_mark is (byte c.loop-i.marks c.loop-i.i)) start)
