use Rattle.std.proofs.Common.{rules}
use Rattle.ledger.specs.Runs.{closes, close_refused, close_refused_elsewhere}
use Rattle.receiver.specs.Views.{numbers_of}
use Rattle.receiver.proofs.burst.Burst.close.Goals as goal

pub returns-in-Ok-clause-steps : goal.returns-in-Ok-clause-steps
returns-in-Ok-clause-steps g c =
    λ sizes h run. closes h (numbers_of c.args.self.numbers) c.args.cells.now c.args.marks.now c.args.scratch.now c.args.names.now _ _ c.close_rows.new.scratch _ _ run
    (search rules, tt, tt)

pub returns-in-Err-clause-steps : goal.returns-in-Err-clause-steps
returns-in-Err-clause-steps g c =
    λ sizes h run. close_refused h (numbers_of c.args.self.numbers) _ c.args.cells.now c.args.marks.now c.args.scratch.now c.args.names.now _ _ c.close_rows.new.scratch c.close_rows.new.names _ run
    (search rules, search rules, search rules)

pub returns-in-Err-clause-elsewhere : goal.returns-in-Err-clause-elsewhere
returns-in-Err-clause-elsewhere g c =
    λ sizes_differ sizes h own own_marks run. close_refused_elsewhere h (numbers_of c.args.self.numbers) _ own own_marks
    c.args.cells.now c.args.marks.now c.args.scratch.now c.args.names.now c.close_rows.new.cells c.close_rows.new.marks c.close_rows.new.scratch c.close_rows.new.names _ run sizes_differ
    (search rules, search rules, search rules)
