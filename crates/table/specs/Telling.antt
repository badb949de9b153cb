-- What a section brings to a table: where its payload goes, and what it tells of the table's end.
use Rattle.std.specs.Prelude.{ℕ, ◌+◌, Bool, true, false, ◌&&◌, cond, length, Option, Some, None, nat_le, nat_lt}
use Rattle.geometry.specs.Cells.{table_size, rs_cell}
use Rattle.geometry.specs.Ends.{padding_from}
use Rattle.section.specs.declared.reading.Header.{Header}
use Rattle.section.specs.declared.reading.Header.TheVariants.{Datagram, Check}
use Rattle.frame.specs.Fields.{Fields}

abbrev pub is_datagram : Header → Bool
is_datagram (Datagram h) = true
is_datagram (Check h) = false

-- the cell of the first byte of the payload: the address of a datagram is one of the application table, that of a check column
-- one of the RS table
abbrev pub first_cell_of : (R : ℕ) → Header → (address : ℕ) → ℕ
first_cell_of R (Datagram h) address = address
first_cell_of R (Check h) address = rs_cell R address

abbrev pub first_cell : (R : ℕ) → Fields → ℕ
first_cell R f = first_cell_of R f.header f.timing.address

-- the cells that the section carries
abbrev pub carries : (R : ℕ) → Fields → ℕ → Bool
carries R f i = nat_le (first_cell R f) i && nat_lt i (first_cell R f + length f.payload)

-- the address after the payload
abbrev pub payload_end : Fields → ℕ
payload_end f = f.timing.address + length f.payload

-- E, told by a datagram section with table_boundary; table_boundary of an MPE-FEC section is not read
abbrev pub told_end_of : Header → (table_boundary : Bool) → (end : ℕ) → Option ℕ
told_end_of (Datagram h) table_boundary end = cond table_boundary (Some end) None
told_end_of (Check h) table_boundary end = None

abbrev pub told_end : Fields → Option ℕ
told_end f = told_end_of f.header f.timing.table_boundary (payload_end f)

-- p, told by an MPE-FEC section
abbrev pub told_padding_of : Header → Option ℕ
told_padding_of (Datagram h) = None
told_padding_of (Check h) = Some h.padding_columns

abbrev pub told_padding : Fields → Option ℕ
told_padding f = told_padding_of f.header

-- the address from which on the section makes the application cells padding: E, or the end that p leaves
abbrev pub padded_from_of : (R : ℕ) → (end padding : Option ℕ) → Option ℕ
padded_from_of R (Some end) padding = Some end
padded_from_of R None (Some p) = Some (padding_from R p)
padded_from_of R None None = None

abbrev pub padded_from : (R : ℕ) → Fields → Option ℕ
padded_from R f = padded_from_of R (told_end f) (told_padding f)

-- the application cells from there on
abbrev pub from_on : (R : ℕ) → Option ℕ → ℕ → Bool
from_on R (Some end) i = nat_le end i && nat_lt i (table_size R)
from_on R None i = false

abbrev pub pads : (R : ℕ) → Fields → ℕ → Bool
pads R f i = from_on R (padded_from R f) i

-- what is known after a section told something, or told nothing
abbrev pub told_now : (told before : Option ℕ) → Option ℕ
told_now (Some x) before = Some x
told_now None before = before
