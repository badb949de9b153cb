-- What start and take leave of a burst and its buffers, whatever these held before.
use Rattle.std.specs.Prelude.{Bool, ◌≡◌, ℕ, ◌+◌, ◌-◌, ◌<◌, true, ◌&&◌, ◌||◌, cond, List, length, Option, Some, replicate, ◌==◌}
use Rattle.octets.specs.Octets.{byte}
use Rattle.marks.specs.declared.Mark.TheVariants.{Unknown, Start, Padding}
use Rattle.marks.specs.Marks.{mark_byte, mark_of, is_received, under_payload}
use Rattle.frame.specs.Fields.{Fields}
use Rattle.table.specs.Tables.{Table}
use Rattle.table.specs.Telling.{is_datagram, first_cell, carries, told_end, told_padding, pads, told_now}
use Rattle.table.specs.Bursts.{Numbers, started}

-- a start for R rows: every mark is 0, and nothing is told or taken yet
pub record Started (sizes : ℕ → Option ℕ) (code : ℕ) (marks marks_after : List ℕ) (burst : Numbers) : Type 0 where
  pub rows : sizes code ≡ Some burst.rows
  pub numbers : burst ≡ started burst.rows
  pub marks_are_0 : marks_after ≡ replicate (length marks) (mark_byte Unknown)

-- the byte of a cell once the section was taken: the payload's, 0 where the section makes padding, else as before
abbrev pub byte_after : (R : ℕ) → Fields → (i before : ℕ) → ℕ
byte_after R f i before =
    cond (pads R f i) 0 (cond (carries R f i) (byte f.payload (i - first_cell R f)) before)

-- a mark under the payload: that of a datagram's first byte is a start now; a start stays one, and any other is received
abbrev pub payload_mark : (first : Bool) → (before : ℕ) → ℕ
payload_mark first before = cond first (mark_byte Start) (mark_byte (under_payload (mark_of before)))

-- the mark of a cell: under the payload as just said, 3 where the section makes padding, else as before
abbrev pub mark_after : (R : ℕ) → Fields → (i before : ℕ) → ℕ
mark_after R f i before =
    cond (pads R f i) (mark_byte Padding)
    (cond (carries R f i) (payload_mark (is_datagram f.header && i == first_cell R f) before) before)

-- the numbers of the burst: what the section tells, with its arrival and its delta_t
abbrev pub numbers_after : Fields → (arrival : ℕ) → Numbers → Numbers
numbers_after f arrival b = record {
  rows = b.rows;
  end = told_now (told_end f) b.end;
  padding = told_now (told_padding f) b.padding;
  latest = Some (record { arrival = arrival; delta_t = f.timing.delta_t });
}

-- a section with these fields was taken into a burst and its buffers
pub record Took (f : Fields) (arrival : ℕ) (before : Numbers) (cells marks : List ℕ) (after : Numbers) (cells_after marks_after : List ℕ) : Type 0 where
  pub numbers : after ≡ numbers_after f arrival before
  pub cells_size : length cells_after ≡ length cells
  pub marks_size : length marks_after ≡ length marks
  pub each_cell : (i : ℕ) → byte cells_after i ≡ byte_after before.rows f i (byte cells i)
  pub each_mark : (i : ℕ) → byte marks_after i ≡ mark_after before.rows f i (byte marks i)

-- the payload of the section stands in its cells, byte for byte, and each of these is known to be received
pub record Stored (R : ℕ) (f : Fields) (cells marks : List ℕ) : Type 0 where
  pub payload : (k : ℕ) → k < length f.payload → byte cells (first_cell R f + k) ≡ byte f.payload k
  pub received : (k : ℕ) → k < length f.payload → is_received (mark_of (byte marks (first_cell R f + k))) ≡ true

-- a section is entered into a table: its payload at its cells, zeros where it makes padding, and what it tells
abbrev pub entered_at : Table → Fields → ℕ → Option ℕ
entered_at t f i =
    cond (pads t.rows f i) (Some 0) (cond (carries t.rows f i) (Some (byte f.payload (i - first_cell t.rows f))) (t.at i))

pub record Entered (t : Table) (f : Fields) (after : Table) : Type 0 where
  pub rows : after.rows ≡ t.rows
  pub at : (i : ℕ) → after.at i ≡ entered_at t f i
  pub received : (i : ℕ) → after.received i ≡ (carries t.rows f i || t.received i)
  pub starts : (i : ℕ) → after.starts i ≡ (is_datagram f.header && i == first_cell t.rows f || t.starts i)
  pub end : after.end ≡ told_now (told_end f) t.end
  pub padding : after.padding ≡ told_now (told_padding f) t.padding
