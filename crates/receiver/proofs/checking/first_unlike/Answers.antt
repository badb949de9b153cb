use Rattle.std.proofs.Common.{length, sym, rules, arith}
use Rattle.table.proofs.Finding.{find_first, find_none}
use Rattle.receiver.proofs.checking.first_unlike.Goals as goal

pub returns-then-cells-k-clause-value : goal.returns-then-cells-k-clause-value
returns-then-cells-k-clause-value c =
    sym (find_first _ 0 (length c.args.payload.now) c.loop-k.k (omega arith) (omega arith) (search rules) (λ j above below. c.loop-k.invariant j below))

pub returns-clause-value : goal.returns-clause-value
returns-clause-value c = sym (find_none _ 0 (length c.args.payload.now) (λ k above below. c.loop-k.invariant k (omega arith)))
