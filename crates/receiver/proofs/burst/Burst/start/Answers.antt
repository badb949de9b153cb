use Rattle.std.proofs.Common.{rules, length, refl, ap, ◌∙◌}
use Rattle.std.proofs.lemmas.Result.{err_from_is_err_and}
use Rattle.geometry.specs.Sizes.{four_sizes, buffers_rule}
use Rattle.table.specs.Rules.{rows_or_none}
use Rattle.table.proofs.Order.{refused_second}
use Rattle.ledger.specs.Runs.{starts, start_refused, start_refused_elsewhere}
use Rattle.ledger.proofs.Steps.{start_steps, start_elsewhere}
use Rattle.receiver.specs.Views.{numbers_of}
use Rattle.receiver.proofs.burst.Burst.start.Goals as goal

pub returns-in_err-rows-clause-steps : goal.returns-in_err-rows-clause-steps
returns-in_err-rows-clause-steps g c =
    start_steps g.C.RowCode.check_columns g.C.RowCode.codeword four_sizes c.args.size_code c.args.cells.now c.args.marks.now c.args.marks.now
    (λ burst. numbers_of burst.numbers) c.from_residual.result (search rules) (search rules)

pub returns-in_err-check_buffers-clause-steps : goal.returns-in_err-check_buffers-clause-steps
returns-in_err-check_buffers-clause-steps g c =
    let size = c.in_ok-rows.ensures.answer in
    let some = ap (λ rows. buffers_rule g.C.RowCode.check_columns (rows_or_none rows) (length c.args.cells.now) (length c.args.marks.now)) size.1 ∙ c.in_err-check_buffers.ensures.answer in
    let e = err_from_is_err_and c.from_residual-in_err-check_buffers.result c.from_residual-in_err-check_buffers.ensures.1 in
    rw (e.1, e.2) (λ h stage run. start_refused h c.args.size_code c.args.cells.now c.args.marks.now c.args.marks.now stage _ run (refused_second _ _ size.0 some, refl))

pub returns-clause-steps : goal.returns-clause-steps
returns-clause-steps g c = λ h w run. starts h w c.args.size_code c.args.cells.now c.args.marks.now _ _ run (search rules, tt)

pub returns-in_err-rows-clause-elsewhere : goal.returns-in_err-rows-clause-elsewhere
returns-in_err-rows-clause-elsewhere g c =
    start_elsewhere g.C.RowCode.check_columns g.C.RowCode.codeword four_sizes c.args.size_code c.args.cells.now c.args.marks.now c.args.marks.now
    (λ burst. numbers_of burst.numbers) c.from_residual.result (search rules) (search rules)

pub returns-in_err-check_buffers-clause-elsewhere : goal.returns-in_err-check_buffers-clause-elsewhere
returns-in_err-check_buffers-clause-elsewhere g c =
    let size = c.in_ok-rows.ensures.answer in
    let some = ap (λ rows. buffers_rule g.C.RowCode.check_columns (rows_or_none rows) (length c.args.cells.now) (length c.args.marks.now)) size.1 ∙ c.in_err-check_buffers.ensures.answer in
    let e = err_from_is_err_and c.from_residual-in_err-check_buffers.result c.from_residual-in_err-check_buffers.ensures.1 in
    rw (e.1, e.2) (λ h w run. start_refused_elsewhere h w c.args.size_code c.args.cells.now c.args.marks.now c.args.marks.now _ run (refused_second _ _ size.0 some, refl))
