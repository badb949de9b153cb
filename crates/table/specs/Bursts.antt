-- A burst, open or closed: the numbers that it holds, and the table that those of an open one make with its two buffers.
use Rattle.std.specs.Prelude.{ℕ, Bool, cond, List, Option, Some, None}
use Rattle.octets.specs.Octets.{byte}
use Rattle.marks.specs.Marks.{mark_of, is_known, is_received, is_start}
use Rattle.geometry.specs.Ends.{limit_of}
use Rattle.table.specs.Tables.{Table}

-- when the section taken last came in, in ms, and its delta_t
pub record Latest : Type 0 where
  pub arrival : ℕ
  pub delta_t : ℕ

pub record Numbers : Type 0 where
  -- R
  pub rows : ℕ
  -- E and p, where told
  pub end : Option ℕ
  pub padding : Option ℕ
  -- of the section taken last; nothing where none was taken
  pub latest : Option Latest

-- those of a burst that has just started
abbrev pub started : (R : ℕ) → Numbers
started R = record { rows = R; end = None; padding = None; latest = None }

-- the byte that the buffers hold of a cell, where its mark says that it is known
abbrev pub known_at : (cells marks : List ℕ) → ℕ → Option ℕ
known_at cells marks i = cond (is_known (mark_of (byte marks i))) (Some (byte cells i)) None

abbrev pub received_at : (marks : List ℕ) → ℕ → Bool
received_at marks i = is_received (mark_of (byte marks i))

abbrev pub start_at : (marks : List ℕ) → ℕ → Bool
start_at marks i = is_start (mark_of (byte marks i))

abbrev pub table_of : Numbers → (cells marks : List ℕ) → Table
table_of b cells marks = record {
  rows = b.rows;
  at = known_at cells marks;
  received = received_at marks;
  starts = start_at marks;
  end = b.end;
  padding = b.padding;
}

-- those of a closed burst: R, and the limit of its table
pub record ClosedNumbers : Type 0 where
  pub rows : ℕ
  pub limit : ℕ

abbrev pub closed_numbers : Numbers → ClosedNumbers
closed_numbers b = record { rows = b.rows; limit = limit_of b.rows b.end b.padding }
