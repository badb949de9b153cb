use Rattle.std.proofs.Common.{Ok, Err, rules}
use Rattle.std.proofs.lemmas.Result.{err_from_is_err_and}
use Rattle.refusal.proofs.Order.{refused_front}
use Rattle.section.proofs.WrittenAgain.{written_again}
use Rattle.section.proofs.Halves.{envelope, content_answers, header_same, part}
use Rattle.section.proofs.reading.read.Goals as goal

pub returns-in_err-kind-clause-answer : goal.returns-in_err-kind-clause-answer
returns-in_err-kind-clause-answer c =
    let e = err_from_is_err_and c.from_residual.result c.from_residual.ensures.1 in
    rw (e.1, e.2) (refused_front (envelope c.args.section.now) _ c.in_err-kind.ensures)

pub returns-in_err-header-clause-answer : goal.returns-in_err-header-clause-answer
returns-in_err-header-clause-answer c =
    let s = c.args.section.now in
    let k = c.in_ok-kind.ensures in
    let e = err_from_is_err_and c.from_residual-in_err-header.result c.from_residual-in_err-header.ensures.1 in
    rw (e.1, e.2) (content_answers _ _ s _ _ _ (Err _) k.0 k.1 c.from_be_bytes-timing.ensures.value (part s) c.in_err-header.ensures)

pub returns : goal.returns
returns c =
    let s = c.args.section.now in
    let k = c.in_ok-kind.ensures in
    let h = c.in_ok-header.ensures in
    let timing = c.from_be_bytes-timing.ensures.value in
    let answer = content_answers c.args.frame.rows c.args.frame.check_columns s _ _ _ (Ok _) k.0 k.1 timing (part s)
    (h.0, record { header = header_same s _ _ _ k.1 (part s) h.1; timing = timing; payload = part s }) in
    record { answer = answer; again = written_again _ _ s _ (λ k h. search rules) answer.0 answer.1 }
