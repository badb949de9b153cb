-- What was written begins the buffer, and reading it gives the same fields.
use Rattle.std.proofs.Common.{◌≡◌, ℕ, List, length, take, drop, sym, refl, subst}
use Rattle.std.proofs.lemmas.List.{take_at}
use Rattle.section.specs.Layout.{written_of}
use Rattle.section.specs.Laws.{ReadsAs}
use Rattle.section_writer.specs.Buffers.{Wrote}
use Rattle.section_writer.proofs.Back.{reads_back}
use Rattle.section_writer.proofs.write.Goals as goal

-- the bytes that were written are the first of the buffer
wrote_first : (bytes before after : List ℕ) (n : ℕ) → Wrote bytes before after n → take n after ≡ bytes
wrote_first bytes before after n wrote = rw (wrote.buffer, wrote.len) (take_at bytes (drop (length bytes) before) (length bytes) refl)

pub returns-clause-back : goal.returns-clause-back
returns-clause-back c =
    let x = c.args.section in
    subst (λ s. ReadsAs c.args.frame.rows c.args.frame.check_columns s x) (sym (wrote_first (written_of x) _ _ _ c.lay.ensures))
    (reads_back c.args.frame.rows c.args.frame.check_columns x _ c.in_ok-timing_bytes.ensures.answer.0)
