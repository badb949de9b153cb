-- The frame of one datagram, by the law that there is just one, and the sections that come from it.
use Rattle.std.proofs.Common.{◌≡◌, ℕ, zero, suc, ◌+◌, ◌^◌, ◌<◌, true, ltb, lit≤, lit<, ◌==◌, List, [], ◌∷◌, ◌++◌, length, replicate, refl, sym, ap, subst, arith}
use Rattle.std.specs.List.{Contains, list_all}
use Rattle.std.proofs.lemmas.Bool.{and_parts, ltb-true}
use Rattle.std.proofs.lemmas.List.FromFn.{length-map-range_with_len, get_or-map-range_with_len}
use Rattle.octets.specs.Octets.{Bytes, byte}
use Rattle.geometry.specs.Cells.{cell}
use Rattle.geometry.specs.Ends.{EndsIn}
use mathlib.Core.Bool.{xor}
use Rattle.crc32.specs.Crc.{crc_bit, crc_bits, crc_byte, crc_from, crc, big_endian}
use Rattle.crc32.proofs.Laws.{crc-lt}
use Rattle.rs_code.specs.Codewords.{Codeword}
use Rattle.rs_code.proofs.Fronts.{any_begins}
use Rattle.rs_code.proofs.Words.{all_bytes}
use Rattle.refusal.proofs.Order.{first_passes}
use Rattle.section.specs.Layout.{header_bytes, written}
use Rattle.section.specs.Writing.{write_rules}
use Rattle.frame.specs.Fields.{Fields}
use Rattle.frame.specs.Frames.{Frame, Fit, Lawful, laid, end_of, placed_from, HasDatagram, column_of}
use Rattle.frame.specs.Sent.{written_from, LaidOut, ComesFrom, with_datagram, with_column}
use Rattle.frame.proofs.OneFrame.{joined_bytes, one_frame}
use Rattle.frame.proofs.SectionsRead.{written_laid_out}
use Rattle.table.specs.Tables.{Table}
use Rattle.table.specs.Bursts.{started, table_of}
use Rattle.table.specs.Taking.{Entered}
use Rattle.table.specs.Laws.{Agrees}
use Rattle.table.proofs.Entering.{still_agrees}
use Rattle.table.proofs.Right.{datagram_right}
use Rattle.table.proofs.Started.{nothing_known}
use Rattle.worked_cases.specs.Examples.{example_datagram}
use Rattle.worked_cases.specs.FrameCases.{only_fields, column_fields, OwnCase}

-- the one element of a list
alone : (d e : List ℕ) → Contains (d ∷ []) e → e ≡ d
alone d e (zero, below, is) = sym is
alone d e (suc k, below, is) = absurd (omega arith)

-- bytes, by a test of each
tested : (xs : List ℕ) → list_all (λ b. ltb b 256) xs ≡ true → Bytes xs
tested [] is k below = absurd (omega arith)
tested (x ∷ xs) is zero below = ltb-true x 256 (and_parts _ _ is).0
tested (x ∷ xs) is (suc k) below = tested xs (and_parts _ _ is).1 k (omega arith)

fits : Fit 256 (example_datagram ∷ [])
fits = record {
  some = λ none. absurd (omega (arith, ap length none));
  each_whole = λ d has. rw (alone example_datagram d has);
  bytes = λ d has. rw (alone example_datagram d has) (tested example_datagram refl);
  fit = lit≤ tt;
}

-- the section written from the fields is laid out so
laid_out : LaidOut 256 64 (written_from only_fields) only_fields
unfolding written xor crc_bit crc_bits crc_byte crc_from crc
laid_out =
    written_laid_out 256 64 only_fields (tested (written_from only_fields) refl) (tested example_datagram refl)
    (first_passes (write_rules 256 64 only_fields.header only_fields.timing only_fields.payload 4096) refl)

-- ---- the section of the first check column, whatever the bytes in it

-- the four bytes of a number of 32 bits
word_is_bytes : (n : ℕ) → n < 2 ^ 32 → Bytes (big_endian n)
word_is_bytes n small zero below = omega arith
word_is_bytes n small (suc zero) below = omega arith
word_is_bytes n small (suc (suc zero)) below = omega arith
word_is_bytes n small (suc (suc (suc zero))) below = omega arith
word_is_bytes n small (suc (suc (suc (suc k)))) below = absurd (omega arith)

-- the fields of that section, with 256 bytes in the column's stead
module _ (frame : Frame) (column : List ℕ) (size : length column ≡ 256) (bytes : Bytes column) where
  abbrev f : Fields
  f = record (column_fields frame) { payload = column }

  -- header, payload and CRC_32 are bytes
  column_written : Bytes (written_from f)
  unfolding written
  column_written k _ =
      let front = header_bytes f.header f.timing (length column) in
      let closing = crc (front ++ column) in
      joined_bytes (front ++ column) (big_endian closing)
      (λ i _. joined_bytes front column (tested front (rw size refl)) (all_bytes column bytes) i)
      (all_bytes (big_endian closing) (word_is_bytes closing (crc-lt (front ++ column))))
      k

  -- they can be written, and are then laid out so
  bytes_laid_out : LaidOut 256 64 (written_from f) f
  bytes_laid_out = written_laid_out 256 64 f column_written bytes (first_passes (write_rules 256 64 f.header f.timing column 4096) (rw size refl))

-- so that of the column is laid out as such a section
column_laid_out : (frame : Frame) → Bytes frame.cells → LaidOut 256 64 (written_from (column_fields frame)) (column_fields frame)
column_laid_out frame cells =
    let at = λ (r : ℕ). byte frame.cells (cell 256 r 191) in
    let size = length-map-range_with_len at 0 256 in
    bytes_laid_out frame (column_of 256 frame.cells 191) size
    (λ k below. rw (get_or-map-range_with_len at 0 256 k k 0 (omega (arith, below, size)) (omega arith)) (all_bytes frame.cells cells (cell 256 k 191)))

-- a frame with that datagram alone
module _ (frame : Frame) (is : frame.datagrams ≡ example_datagram ∷ []) where
  -- has it at address 0, ends with it, and has 190 columns of padding only
  at_0 : HasDatagram frame 0 example_datagram
  at_0 = subst (λ ds. Contains (placed_from 0 ds) (0, example_datagram)) (sym is) (0, lit< tt, refl)

  last : true ≡ (0 + length example_datagram == end_of frame)
  last = subst (λ (ds : List (List ℕ)). true ≡ (0 + length example_datagram == length (laid ds))) (sym is) refl

  ends : EndsIn 256 190 (end_of frame)
  ends = subst (λ (ds : List (List ℕ)). EndsIn 256 190 (length (laid ds))) (sym is) (lit< tt, lit≤ tt)

  -- so the section comes from it
  comes : ComesFrom 256 64 frame (written_from only_fields)
  comes = with_datagram only_fields _ laid_out refl at_0 last

  -- and that of its first check column
  comes_column : Bytes frame.cells → ComesFrom 256 64 frame (written_from (column_fields frame))
  comes_column bytes = with_column (column_fields frame) _ (column_laid_out frame bytes) refl ends refl

  -- and a table that agrees with it still does so with the datagram entered
  agrees_after : Lawful 64 Codeword 256 frame → (cells : List ℕ) (n : ℕ) (after : Table)
      → Entered (table_of (started 256) cells (replicate n 0)) only_fields after → Agrees frame after
  agrees_after lawful cells n after =
      still_agrees 64 Codeword frame (table_of (started 256) cells (replicate n 0)) only_fields after lawful (nothing_known frame 256 cells n)
      (datagram_right 64 256 Codeword frame only_fields _ lawful refl at_0 last)

pub own_case : OwnCase
own_case =
    let (frame, (datagrams, lawful, only)) = one_frame 64 Codeword (λ word is. is.is_row) any_begins 256 (lit≤ tt) (example_datagram ∷ []) fits in
    record {
      frame = frame;
      datagrams = datagrams;
      lawful = lawful;
      comes = comes frame datagrams;
      comes_column = comes_column frame datagrams lawful.bytes;
      agrees = nothing_known frame 256;
      agrees_after = agrees_after frame datagrams lawful;
    }
