use Rattle.std.proofs.Common.{arith, ap, not}
use Rattle.reed_solomon.proofs.Counting.{count_below}
use Rattle.reed_solomon.proofs.Turns.{inserted, passed}
use Rattle.reed_solomon.proofs.insert.Goals as goal
use Rattle.reed_solomon.proofs.insert.Goals.{then-not-known-i, else-not-known-i}

pub bounds-values-u : goal.bounds-values-u
bounds-values-u c = omega (arith, count_below c.args.known.now c.loop-i.i 255 (ap not c.if-not-known-i.true) c.loop-i-test.true, c.loop-i.invariant.count_is)

pub loop-i-preserved : goal.loop-i-preserved
loop-i-preserved c =
    elim c.if-not-known-i.branch [
      | then-not-known-i w ↦
          inserted c.args.known.now c.args.row.now c.loop-i.row c.args.values.now c.loop-i.i c.loop-i.u c.if-not-known-i.row c.if-not-known-i.u
          (omega arith) w.if-not-known-i.true w.row-is w.u-is c.loop-i.invariant
      | else-not-known-i w ↦
          passed c.args.known.now c.args.row.now c.loop-i.row c.args.values.now c.loop-i.i c.loop-i.u c.if-not-known-i.row c.if-not-known-i.u
          w.if-not-known-i.false w.row-is w.u-is c.loop-i.invariant
    ]
