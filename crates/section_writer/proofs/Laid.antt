-- The parts of a section, laid at the beginning of a buffer.
use Rattle.std.proofs.Common.{◌≡◌, ℕ, ◌+◌, List, ◌++◌, length, drop, sym, ap, ◌∙◌}
use Rattle.section.specs.declared.reading.Section.{Section}
use Rattle.section.specs.Layout.{header_bytes, with_crc, written, written_of}
use Rattle.section.proofs.LaidOut.{written_length}
use Rattle.section_writer.specs.Buffers.{Wrote}

pub laid : (x : Section) (front part before : List ℕ) → front ≡ header_bytes x.header x.timing (length x.payload.now) → part ≡ with_crc (front ++ x.payload.now)
    → Wrote (written_of x) before (part ++ drop (16 + length x.payload.now) before) (16 + length x.payload.now)
unfolding written
laid x front part before is_front filled =
    let whole : part ≡ written_of x = rw is_front at filled in
    let size = sym (written_length x.header x.timing x.payload.now) in
    record {
      len = size;
      buffer = ap (λ (p : List ℕ). p ++ drop (16 + length x.payload.now) before) whole ∙ ap (λ (n : ℕ). written_of x ++ drop n before) size;
    }
