use Rattle.std.proofs.Common.{sym, ap, ◌∙◌}
use Rattle.std.proofs.lemmas.Result.{err_from_is_err_and}
use Rattle.refusal.specs.Rules.{first}
use Rattle.section.specs.Rules.{read_rules}
use Rattle.frame.specs.Fields.{Fields, fields_of}
use Rattle.table.specs.Bursts.{table_of}
use Rattle.table.specs.Rules.{table_rules}
use Rattle.receiver.specs.Views.{numbers_of}
use Rattle.table.proofs.Order.{refused_before, refused_after, passes_both}
use Rattle.receiver.proofs.numbers.Numbers.admit.Goals as goal

pub returns-in_err-section : goal.returns-in_err-section
returns-in_err-section c =
    let e = err_from_is_err_and c.from_residual.result c.from_residual.ensures.1 in
    rw (e.1, e.2) (refused_before (read_rules c.args.self.rows.count c.args.check_columns c.args.section.now) _ c.in_err-section.ensures)

pub returns-in_err-check : goal.returns-in_err-check
returns-in_err-check c =
    let t = table_of (numbers_of c.args.self) c.args.cells.now c.args.marks.now in
    let read = c.in_ok-section.ensures in
    let some = ap (λ (f : Fields). first (table_rules t f)) (sym read.1.0) ∙ c.in_err-check.ensures.answer in
    let e = err_from_is_err_and c.from_residual-in_err-check.result c.from_residual-in_err-check.ensures.1 in
    rw (e.1, e.2) (refused_after (read_rules c.args.self.rows.count c.args.check_columns c.args.section.now) (table_rules t (fields_of c.args.section.now)) read.0 some)

pub returns : goal.returns
returns c =
    let t = table_of (numbers_of c.args.self) c.args.cells.now c.args.marks.now in
    let read = c.in_ok-section.ensures in
    let none = ap (λ (f : Fields). first (table_rules t f)) (sym read.1.0) ∙ c.in_ok-check.ensures.answer.0 in
    (passes_both (read_rules c.args.self.rows.count c.args.check_columns c.args.section.now) (table_rules t (fields_of c.args.section.now)) read.0 none, (read.1.0, c.in_ok-check.ensures.inside, c.in_ok-check.ensures.end))
