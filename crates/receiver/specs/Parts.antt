-- Parts of a buffer that are written, and what that leaves of it.
use Rattle.std.specs.Prelude.{◌≡◌, ℕ, ◌+◌, ◌≤◌, ◌&&◌, cond, true, false, List, length, Option, IfSome, find, nat_le, nat_lt}
use Rattle.std.specs.List.{range_with_len}
use Rattle.octets.specs.Octets.{byte}
use Rattle.geometry.specs.Cells.{table_size}
use Rattle.frame.specs.Fields.{Fields}
use Rattle.table.specs.Telling.{is_datagram, first_cell, payload_end, padded_from, pads}
use Rattle.table.specs.Rules.{differs}
use Rattle.table.specs.Bursts.{known_at}
use Rattle.table.specs.Taking.{byte_after, mark_after}

-- the payload lies inside a buffer of so many bytes
abbrev pub Inside : (R : ℕ) → Fields → (size : ℕ) → Type 0
Inside R f size = first_cell R f + length f.payload ≤ size

-- a datagram's lies inside the application table
abbrev pub DatagramInside : (R : ℕ) → Fields → Type 0
DatagramInside R f = is_datagram f.header ≡ true → payload_end f ≤ table_size R

-- the payload of an MPE-FEC section lies inside such a buffer
abbrev pub ColumnInside : (R : ℕ) → Fields → (size : ℕ) → Type 0
ColumnInside R f size = is_datagram f.header ≡ false → Inside R f size

-- where the section tells where padding begins, that is inside the application table
abbrev pub EndInside : (R : ℕ) → Fields → Type 0
EndInside R f = IfSome (padded_from R f) (λ end. end ≤ table_size R)

-- every place of the part from `from` up to `end` is as f has it, of the place and of what stood there; all others are as before
pub record PartIs (from end : ℕ) (f : ℕ → ℕ → ℕ) (before after : List ℕ) : Type 0 where
  pub size : length after ≡ length before
  pub each : (i : ℕ) → byte after i ≡ cond (nat_le from i && nat_lt i end) (f i (byte before i)) (byte before i)

-- every application cell from where the section tells padding on has this byte; all others are as before
pub record Padded (R : ℕ) (f : Fields) (b : ℕ) (before after : List ℕ) : Type 0 where
  pub size : length after ≡ length before
  pub each : (i : ℕ) → byte after i ≡ cond (pads R f i) b (byte before i)

-- every cell is as it is once a section was taken, and so is every mark
pub record CellsTook (R : ℕ) (f : Fields) (before after : List ℕ) : Type 0 where
  pub size : length after ≡ length before
  pub each : (i : ℕ) → byte after i ≡ byte_after R f i (byte before i)

pub record MarksTook (R : ℕ) (f : Fields) (before after : List ℕ) : Type 0 where
  pub size : length after ≡ length before
  pub each : (i : ℕ) → byte after i ≡ mark_after R f i (byte before i)

-- the first byte of a payload that is not what is known of its cell, where the payload lies over these cells and marks
abbrev pub first_unlike : (payload cells marks : List ℕ) → Option ℕ
first_unlike payload cells marks =
    find (λ k. differs (byte payload k) (known_at cells marks k)) (range_with_len 0 (length payload))
