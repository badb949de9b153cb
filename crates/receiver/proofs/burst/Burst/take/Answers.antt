use Rattle.std.proofs.Common.{length, rules}
use Rattle.frame.specs.Fields.{fields_of}
use Rattle.table.specs.Bursts.{table_of}
use Rattle.receiver.specs.Views.{numbers_of}
use Rattle.ledger.proofs.Steps.{take_steps, take_elsewhere}
use Rattle.table.proofs.Order.{answers_behind}
use Rattle.table.proofs.Takes.{takes_own, takes_stored, takes_entered, takes_keeping}
use Rattle.receiver.proofs.burst.Burst.take.Goals as goal

pub returns-clause-answer : goal.returns-clause-answer
returns-clause-answer g c = answers_behind _ _ _ c.take.result c.in_ok-check_buffers.ensures.answer.0 (rw c.check_columns.ensures at c.take.ensures.answer)

pub returns-clause-payload : goal.returns-clause-payload
returns-clause-payload g c =
    takes_stored _ (fields_of c.args.section.now) c.args.arrival (numbers_of c.args.self.now.numbers) c.args.cells.now c.args.marks.now
    (numbers_of c.take.new.self) c.take.new.cells c.take.new.marks c.take.result c.take.ensures.answer

pub returns-clause-entered : goal.returns-clause-entered
returns-clause-entered g c =
    takes_entered g.C.RowCode.check_columns c.args.section.now c.args.arrival (numbers_of c.args.self.now.numbers) c.args.cells.now c.args.marks.now
    (numbers_of c.take.new.self) c.take.new.cells c.take.new.marks c.take.result (returns-clause-answer g c)

pub returns-clause-own : goal.returns-clause-own
returns-clause-own g c =
    takes_own g.C.RowCode.check_columns g.C.RowCode.codeword (table_of (numbers_of c.args.self.now.numbers) c.args.cells.now c.args.marks.now) c.args.section.now
    (length c.args.cells.now) (length c.args.marks.now) _ c.take.result g.met.C.RowCode.few (returns-clause-answer g c)

pub returns-clause-keeps : goal.returns-clause-keeps
returns-clause-keeps g c =
    takes_keeping g.C.RowCode.check_columns g.C.RowCode.codeword (table_of (numbers_of c.args.self.now.numbers) c.args.cells.now c.args.marks.now) c.args.section.now
    (table_of (numbers_of c.take.new.self) c.take.new.cells c.take.new.marks) c.take.result g.met.C.RowCode.few (returns-clause-entered g c)

pub returns-in_err-check_buffers-clause-steps : goal.returns-in_err-check_buffers-clause-steps
returns-in_err-check_buffers-clause-steps g c =
    take_steps g.C.RowCode.check_columns g.C.RowCode.codeword c.args.section.now c.args.arrival (λ n. n) (numbers_of c.args.self.now.numbers) _ c.args.cells.now c.args.marks.now _ _ _
    (search rules) (search rules)

pub returns-clause-steps : goal.returns-clause-steps
returns-clause-steps g c =
    take_steps g.C.RowCode.check_columns g.C.RowCode.codeword c.args.section.now c.args.arrival numbers_of c.args.self.now.numbers c.take.new.self
    c.args.cells.now c.args.marks.now c.take.new.cells c.take.new.marks c.take.result (returns-clause-answer g c) c.take.ensures.stays

pub returns-in_err-check_buffers-clause-elsewhere : goal.returns-in_err-check_buffers-clause-elsewhere
returns-in_err-check_buffers-clause-elsewhere g c =
    take_elsewhere g.C.RowCode.check_columns g.C.RowCode.codeword c.args.section.now c.args.arrival (λ n. n) (numbers_of c.args.self.now.numbers) (numbers_of c.args.self.now.numbers)
    c.args.cells.now c.args.marks.now c.args.cells.now c.args.marks.now c.from_residual.result (search rules) (search rules)

pub returns-clause-elsewhere : goal.returns-clause-elsewhere
returns-clause-elsewhere g c =
    take_elsewhere g.C.RowCode.check_columns g.C.RowCode.codeword c.args.section.now c.args.arrival numbers_of c.args.self.now.numbers c.take.new.self
    c.args.cells.now c.args.marks.now c.take.new.cells c.take.new.marks c.take.result (returns-clause-answer g c) c.take.ensures.stays
