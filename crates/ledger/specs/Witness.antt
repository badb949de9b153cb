-- That the promise is no empty one: with one lawful frame, a run with a loss and a repair, and a run without a loss, both until next
-- answers end. And that after the loss only a repair keeps it.
--
-- There are 20 rows and one check column, which repeats column 0: 192 columns, 3,840 cells. The frame has two datagrams of 20 bytes,
-- so the first fills column 0, the second column 1, and columns 2 to 190 are padding. In the first run the section of the first
-- datagram is lost. Those of the second and of the check column are taken, and in each row the close fills the byte of column 0. So the
-- datagram that was lost is handed out, and then the other. In the second run the sections of both datagrams are taken, that of the
-- check column is not, and in each row the close fills the byte of column 191. The CRC_32 of each section was worked out by another
-- program.
use Rattle.std.specs.Prelude.{◌≡◌, ℕ, zero, suc, ◌<◌, List, [], ◌∷◌, replicate, Option, Some, None}
use Rattle.octets.specs.Octets.{byte}
use Rattle.refusal.specs.declared.Refusal.TheVariants.{FrameBuffers}
use Rattle.rowcode.specs.Rows.{IsRow, Begins, OnlyIs}
use Rattle.rowcode.specs.Answers.{number_of as name_of}
use Rattle.rowcode.specs.declared.Mended.TheVariants.{Filled, Open}
use Rattle.frame.specs.Frames.{Frame, Lawful, HasDatagram}
use Rattle.table.specs.Tables.{Table}
use Rattle.table.specs.Bursts.{known_at}
use Rattle.ledger.specs.Calls.{start, take, close, «open», next, done, closed, handed, at_end, refused, Event, History, noted, calls}
use Rattle.ledger.specs.Ledgers.{Ledger}
use Rattle.ledger.specs.Runs.{World, Run}
use Rattle.ledger.specs.Law.{AllFrom, Came}
use Rattle.ledger.specs.ShutOut.{JustClosed, ShutsOut}

-- every size code stands for 20 rows
abbrev pub twenty_rows : ℕ → Option ℕ
twenty_rows code = Some 20

-- the row code: a row of 192 bytes is a codeword if its check byte, the last, repeats byte 0
pub record Repeats (row : List ℕ) : Type 0 where
  pub is_row : IsRow 192 row
  pub check : byte row 191 ≡ byte row 0

-- an IPv4 datagram of 20 bytes, and another one
abbrev pub first_datagram : List ℕ
first_datagram =
    0x45 ∷ 0x00 ∷ 0x00 ∷ 0x14 ∷ 0x00 ∷ 0x00 ∷ 0x40 ∷ 0x00 ∷ 0x01 ∷ 0x11
    ∷ 0xC0 ∷ 0xC9 ∷ 0xC0 ∷ 0x00 ∷ 0x02 ∷ 0x01 ∷ 0xE0 ∷ 0x00 ∷ 0x17 ∷ 0x0E ∷ []

abbrev pub second_datagram : List ℕ
second_datagram =
    0x45 ∷ 0x00 ∷ 0x00 ∷ 0x14 ∷ 0x00 ∷ 0x01 ∷ 0x40 ∷ 0x00 ∷ 0x01 ∷ 0x11
    ∷ 0xC0 ∷ 0xC8 ∷ 0xC0 ∷ 0x00 ∷ 0x02 ∷ 0x01 ∷ 0xE0 ∷ 0x00 ∷ 0x17 ∷ 0x0E ∷ []

-- the section of the first: delta_t 500 (5 s), address 0
abbrev pub first_section : List ℕ
first_section =
    0x3E ∷ 0xB0 ∷ 0x21 ∷ 0x0E ∷ 0x17 ∷ 0xC1 ∷ 0x00 ∷ 0x00 ∷ 0x1F ∷ 0x40 ∷ 0x00 ∷ 0x00
    ∷ 0x45 ∷ 0x00 ∷ 0x00 ∷ 0x14 ∷ 0x00 ∷ 0x00 ∷ 0x40 ∷ 0x00 ∷ 0x01 ∷ 0x11 ∷ 0xC0 ∷ 0xC9
    ∷ 0xC0 ∷ 0x00 ∷ 0x02 ∷ 0x01 ∷ 0xE0 ∷ 0x00 ∷ 0x17 ∷ 0x0E ∷ 0x6D ∷ 0x3F ∷ 0xDB ∷ 0x5D ∷ []

-- that of the second: table_boundary, address 20
abbrev pub second_section : List ℕ
second_section =
    0x3E ∷ 0xB0 ∷ 0x21 ∷ 0x0E ∷ 0x17 ∷ 0xC1 ∷ 0x00 ∷ 0x00 ∷ 0x1F ∷ 0x48 ∷ 0x00 ∷ 0x14
    ∷ 0x45 ∷ 0x00 ∷ 0x00 ∷ 0x14 ∷ 0x00 ∷ 0x01 ∷ 0x40 ∷ 0x00 ∷ 0x01 ∷ 0x11 ∷ 0xC0 ∷ 0xC8
    ∷ 0xC0 ∷ 0x00 ∷ 0x02 ∷ 0x01 ∷ 0xE0 ∷ 0x00 ∷ 0x17 ∷ 0x0E ∷ 0x05 ∷ 0x65 ∷ 0x82 ∷ 0x84 ∷ []

-- that of the check column: p 189, number 0 and last number 0, table_boundary and frame_boundary, address 0; its payload is that of
-- column 0, the first datagram
abbrev pub check_section : List ℕ
check_section =
    0x78 ∷ 0xB0 ∷ 0x21 ∷ 0xBD ∷ 0xFF ∷ 0xFF ∷ 0x00 ∷ 0x00 ∷ 0x1F ∷ 0x4C ∷ 0x00 ∷ 0x00
    ∷ 0x45 ∷ 0x00 ∷ 0x00 ∷ 0x14 ∷ 0x00 ∷ 0x00 ∷ 0x40 ∷ 0x00 ∷ 0x01 ∷ 0x11 ∷ 0xC0 ∷ 0xC9
    ∷ 0xC0 ∷ 0x00 ∷ 0x02 ∷ 0x01 ∷ 0xE0 ∷ 0x00 ∷ 0x17 ∷ 0x0E ∷ 0x91 ∷ 0x97 ∷ 0xC9 ∷ 0xCC ∷ []

-- the calls of the first run up to the close with their answers, the latest first; the check column's section is first given with no
-- buffers, and refused
abbrev pub reception : History
reception =
    noted (take check_section 6 3840 3840) done
    ∷ noted (take check_section 6 0 0) (refused FrameBuffers)
    ∷ noted (take second_section 5 3840 3840) done
    ∷ noted (start 0 3840 3840) done
    ∷ []

-- a close that fills all rows
abbrev pub all_filled : Event
all_filled = noted (close 3840 3840 255 20) (closed (replicate 20 (name_of Filled)))

-- here it is the repair
abbrev pub repair : History
repair = all_filled ∷ reception

-- then two read-outs, asked by turns; the first is asked once more after its end
abbrev pub reading : History
reading =
    noted (next 1) (handed (20, second_datagram))
    ∷ noted (next 0) at_end
    ∷ noted (next 0) at_end
    ∷ noted (next 0) (handed (20, second_datagram))
    ∷ noted (next 1) (handed (0, first_datagram))
    ∷ noted («open» 3840 3840) done
    ∷ noted (next 0) (handed (0, first_datagram))
    ∷ noted («open» 3840 3840) done
    ∷ repair

-- and the second is at its end too
abbrev pub history : History
history = noted (next 1) at_end ∷ reading

-- and is asked n times more
abbrev pub asked_again : (n : ℕ) → History
asked_again zero = history
asked_again (suc n) = noted (next 1) at_end ∷ asked_again n

-- the calls of the second run up to the close: both datagrams come, and no check column
abbrev pub full_reception : History
full_reception =
    noted (take second_section 6 3840 3840) done
    ∷ noted (take first_section 5 3840 3840) done
    ∷ noted (start 0 3840 3840) done
    ∷ []

-- then the close, and a read-out, whose next call is at its end
abbrev pub full_reading : History
full_reading =
    noted (next 0) (handed (20, second_datagram))
    ∷ noted (next 0) (handed (0, first_datagram))
    ∷ noted («open» 3840 3840) done
    ∷ all_filled
    ∷ full_reception

-- The calls h, the latest first, and a last one, next on read-out k, which answers end, meet the premises of the promise for a frame:
pub record MetBy (frame : Frame) (h : History) (k : ℕ) : Type 0 where
  -- they are a run
  pub world : World
  pub run : Run 1 Repeats twenty_rows (noted (next k) at_end ∷ h) world
  -- before the last of them there is a ledger
  pub table : Table
  pub rows : table.rows ≡ 20
  pub ledger : Ledger 1 Repeats twenty_rows (calls h) table
  -- and all that was taken came from the frame
  pub all_from : AllFrom 1 20 frame h

-- The premises of the promise are met.
pub record Met : Type 0 where
  -- the row code is one: any 191 bytes begin just one codeword
  pub begins : (front : List ℕ) → IsRow 191 front → (word : List ℕ) × OnlyIs (Begins Repeats front) word
  -- there is a lawful frame of the two datagrams
  pub frame : Frame
  pub datagrams : frame.datagrams ≡ first_datagram ∷ second_datagram ∷ []
  pub lawful : Lawful 1 Repeats 20 frame
  -- the first run meets them
  pub with_loss : MetBy frame reading 1
  -- after it next can be asked ever so often, and answers end
  pub goes_on : (n : ℕ) → Run 1 Repeats twenty_rows (asked_again n) with_loss.world
  -- and a new start begins the next burst
  pub anew : (w : World) × Run 1 Repeats twenty_rows (noted (start 0 3840 3840) done ∷ history) w
  -- and so does the second run, with that of what loses nothing too: each of the frame's datagrams came
  pub without_loss : MetBy frame full_reading 0
  pub each_came : (address : ℕ) (datagram : List ℕ) → HasDatagram frame address datagram → Came full_reading address datagram

-- a close after the first run's reception was not refused, gave these names and led to this world, and what is promised holds
abbrev pub ClosedSo : (names : List ℕ) → World → Type 0
ClosedSo names w = JustClosed 1 Repeats twenty_rows reception names w

-- What the promise leaves no room for there.
pub record OnlyRepair : Type 0 where
  -- the close of that run is such a close
  pub world : World
  pub run : Run 1 Repeats twenty_rows repair world
  pub repairs : ClosedSo (replicate 20 (name_of Filled)) world
  -- each such close names every row filled, and column 0, which was lost, then holds the first datagram
  pub named : (names : List ℕ) (w : World) → ClosedSo names w → names ≡ replicate 20 (name_of Filled)
  pub repaired : (names : List ℕ) (w : World) → ClosedSo names w → (r : ℕ) → r < 20 → known_at w.cells w.marks r ≡ Some (byte first_datagram r)
  -- So each of these breaks the promise: a mender that calls every row open,
  pub every_row_open : (w : World) → ClosedSo (replicate 20 (name_of Open)) w → ⊥
  -- one that fills with zeros,
  pub filled_with_zeros : (names : List ℕ) (w : World) → ClosedSo names w → ((r : ℕ) → r < 20 → known_at w.cells w.marks r ≡ Some 0) → ⊥
  -- and a close that mends row 0 alone, and merely names the others.
  pub only_row_0 : (names : List ℕ) (w : World) → ClosedSo names w → ((r : ℕ) → 0 < r → r < 20 → known_at w.cells w.marks r ≡ None) → ⊥
  -- And the same is shut out, with this row code and whatever was received, in each row with which just one codeword agrees.
  pub any_row : ShutsOut 1 Repeats
