use Rattle.std.proofs.lemmas.Result.{err_from_is_err_and}
use Rattle.section_writer.proofs.Order.{content_refused, buffer_refused, timing_answers}
use Rattle.section_writer.proofs.check.Goals as goal

pub returns-in_err-check_fields-clause-answer : goal.returns-in_err-check_fields-clause-answer
returns-in_err-check_fields-clause-answer c =
    let e = err_from_is_err_and c.from_residual.result c.from_residual.ensures.1 in
    rw (e.1, e.2) (content_refused c.args.frame c.args.section c.args.room c.in_err-check_fields.ensures)

pub returns-in_err-check_room-clause-answer : goal.returns-in_err-check_room-clause-answer
returns-in_err-check_room-clause-answer c =
    let e = err_from_is_err_and c.from_residual-in_err-check_room.result c.from_residual-in_err-check_room.ensures.1 in
    rw (e.1, e.2) (buffer_refused c.args.frame c.args.section c.args.room c.in_ok-check_fields.ensures.0 c.in_err-check_room.ensures)

pub returns-clause-answer : goal.returns-clause-answer
returns-clause-answer c =
    timing_answers c.args.frame c.args.section c.args.room _ c.in_ok-check_fields.ensures.0 c.in_ok-check_room.ensures.0 c.to_be_bytes.result c.to_be_bytes.ensures.answer
