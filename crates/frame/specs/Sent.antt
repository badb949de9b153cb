-- Sections that come from a frame.
use Rattle.std.specs.Prelude.{◌≡◌, ℕ, ◌+◌, ◌<◌, false, List, length, ◌==◌}
use Rattle.octets.specs.Octets.{Bytes, byte, bit}
use Rattle.crc32.specs.Crc.{crc}
use Rattle.geometry.specs.Ends.{EndsIn}
use Rattle.refusal.specs.Rules.{Passes}
use Rattle.section.specs.declared.reading.DatagramHeader.{DatagramHeader}
use Rattle.section.specs.declared.reading.CheckHeader.{CheckHeader}
use Rattle.section.specs.declared.reading.Header.TheVariants.{Datagram, Check}
use Rattle.section.specs.Layout.{written, unread}
use Rattle.section.specs.Writing.{write_rules}
use Rattle.frame.specs.Fields.{Fields}
use Rattle.frame.specs.Frames.{Frame, end_of, HasDatagram, column_of}

-- the section that is written from these fields
abbrev pub written_from : Fields → List ℕ
written_from f = written f.header f.timing f.payload

-- The bytes are laid out as a section with these fields, for R rows and m check columns: in every bit that is read they are
-- what is written from the fields, and their CRC_32 is right. What is not read may be otherwise.
pub record LaidOut (R m : ℕ) (s : List ℕ) (f : Fields) : Type 0 where
  pub bytes : Bytes s
  pub payload_bytes : Bytes f.payload
  -- the fields can be written, and give as many bytes
  pub writable : Passes (write_rules R m f.header f.timing f.payload 4096)
  pub size : length s ≡ length (written_from f)
  -- CRC_32 aside
  pub bits : (k b : ℕ) → k + 4 < length s → b < 8 → unread (byte (written_from f) 0) k b ≡ false → bit (byte s k) b ≡ bit (byte (written_from f) k) b
  pub checked : crc s ≡ 0

-- A section comes from a frame of R rows and m check columns: it is laid out as a section, and carries one of the frame's
-- datagrams at its address, with table_boundary set for the last alone, or one of its check columns, with its p.
pub data ComesFrom (R m : ℕ) (frame : Frame) (s : List ℕ) : Type 0 where
  with_datagram : (f : Fields) (h : DatagramHeader) → LaidOut R m s f → f.header ≡ Datagram h
      → HasDatagram frame f.timing.address f.payload
      → f.timing.table_boundary ≡ (f.timing.address + length f.payload == end_of frame)
      → ComesFrom R m frame s
  with_column : (f : Fields) (h : CheckHeader) → LaidOut R m s f → f.header ≡ Check h
      → EndsIn R h.padding_columns (end_of frame)
      → f.payload ≡ column_of R frame.cells (191 + h.number)
      → ComesFrom R m frame s
