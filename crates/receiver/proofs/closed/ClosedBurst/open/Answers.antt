use Rattle.std.proofs.Common.{rules}
use Rattle.ledger.specs.Runs.{opens}
use Rattle.ledger.proofs.Keeping.{keeps}
use Rattle.ledger.proofs.Handing.{loses_nothing}
use Rattle.ledger.proofs.Steps.{open_steps}
use Rattle.receiver.specs.Views.{closed_numbers_of, read_out_of}
use Rattle.receiver.proofs.closed.ClosedBurst.open.Goals as goal

pub returns-in_err-check_buffers-clause-steps : goal.returns-in_err-check_buffers-clause-steps
returns-in_err-check_buffers-clause-steps g c =
    open_steps g.C.RowCode.check_columns g.C.RowCode.codeword (closed_numbers_of c.args.self.now.numbers) c.args.cells.now c.args.marks.now
    (λ read_out. read_out_of read_out) c.from_residual.result (search rules)

pub returns-in_err-check_buffers-clause-law : goal.returns-in_err-check_buffers-clause-law
returns-in_err-check_buffers-clause-law g c = keeps g.C.RowCode.check_columns g.C.RowCode.codeword g.met.C.RowCode.few

pub returns-in_err-check_buffers-clause-whole : goal.returns-in_err-check_buffers-clause-whole
returns-in_err-check_buffers-clause-whole g c = loses_nothing g.C.RowCode.check_columns g.C.RowCode.codeword g.met.C.RowCode.few

pub returns-clause-steps : goal.returns-clause-steps
returns-clause-steps g c =
    λ sizes h read_outs run. opens h (closed_numbers_of c.args.self.now.numbers) read_outs (read_out_of c.read_out.result) c.args.cells.now c.args.marks.now run (search rules)

pub returns-clause-law : goal.returns-clause-law
returns-clause-law g c = keeps g.C.RowCode.check_columns g.C.RowCode.codeword g.met.C.RowCode.few

pub returns-clause-whole : goal.returns-clause-whole
returns-clause-whole g c = loses_nothing g.C.RowCode.check_columns g.C.RowCode.codeword g.met.C.RowCode.few
