-- A lawful frame of one datagram, a section of either kind that comes from it, and bursts that agree with it: what take promises
-- of a frame's own sections is no empty promise.
use Rattle.std.specs.Prelude.{◌≡◌, ℕ, true, false, List, [], ◌∷◌, replicate}
use Rattle.rs_code.specs.Codewords.{Codeword}
use Rattle.section.specs.declared.reading.Header.TheVariants.{Check}
use Rattle.section.specs.declared.timing.RealTime.{RealTime}
use Rattle.frame.specs.Fields.{Fields}
use Rattle.frame.specs.Frames.{Frame, Lawful, column_of}
use Rattle.frame.specs.Sent.{written_from, ComesFrom}
use Rattle.table.specs.Tables.{Table}
use Rattle.table.specs.Bursts.{started, table_of}
use Rattle.table.specs.Taking.{Entered}
use Rattle.table.specs.Laws.{Agrees}
use Rattle.worked_cases.specs.Examples.{example_header, example_datagram}

-- the datagram of the example, alone in its frame: at address 0, the last of its table and of its frame
abbrev pub only_timing : RealTime
only_timing = record { delta_t = 500; table_boundary = true; frame_boundary = true; address = 0 }

abbrev pub only_fields : Fields
only_fields = record { header = example_header; timing = only_timing; payload = example_datagram }

-- the first check column of a frame of 256 rows, behind an application table where 190 of the 191 columns are padding only
abbrev pub column_fields : Frame → Fields
column_fields frame = record {
  header = Check (record { padding_columns = 190; number = 0; last = 63 });
  timing = record { delta_t = 500; table_boundary = false; frame_boundary = false; address = 0 };
  payload = column_of 256 frame.cells 191;
}

pub record OwnCase : Type 0 where
  pub frame : Frame
  pub datagrams : frame.datagrams ≡ example_datagram ∷ []
  -- with 256 rows and RS(255,191) the frame is lawful
  pub lawful : Lawful 64 Codeword 256 frame
  -- the section written from the fields comes from it, and so does the section of its first check column
  pub comes : ComesFrom 256 64 frame (written_from only_fields)
  pub comes_column : ComesFrom 256 64 frame (written_from (column_fields frame))
  -- and a burst that has just started agrees with it, whatever its cells and its buffers' length
  pub agrees : (cells : List ℕ) (n : ℕ) → Agrees frame (table_of (started 256) cells (replicate n 0))
  -- which still agrees with it once the datagram was entered
  pub agrees_after : (cells : List ℕ) (n : ℕ) (after : Table) → Entered (table_of (started 256) cells (replicate n 0)) only_fields after → Agrees frame after
