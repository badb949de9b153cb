-- The marks of cells: what each says of its cell, and the byte that it is kept as.
use Rattle.std.specs.Prelude.{ℕ, Bool, true, false, cond, ◌==◌}
use Rattle.marks.specs.declared.Mark.{Mark}
use Rattle.marks.specs.declared.Mark.TheVariants.{Unknown, Received, Start, Padding, Filled}

-- the byte of a mark
abbrev pub mark_byte : Mark → ℕ
mark_byte Unknown = 0
mark_byte Received = 1
mark_byte Start = 2
mark_byte Padding = 3
mark_byte Filled = 4

-- the mark that a byte stands for; one above 4 is read as 0
abbrev pub mark_of : ℕ → Mark
mark_of b = cond (b == 1) Received (cond (b == 2) Start (cond (b == 3) Padding (cond (b == 4) Filled Unknown)))

-- the byte of such a cell is known
abbrev pub is_known : Mark → Bool
is_known Unknown = false
is_known Received = true
is_known Start = true
is_known Padding = true
is_known Filled = true

-- a section carried it
abbrev pub is_received : Mark → Bool
is_received Unknown = false
is_received Received = true
is_received Start = true
is_received Padding = false
is_received Filled = false

-- as the first byte of a datagram
abbrev pub is_start : Mark → Bool
is_start Unknown = false
is_start Received = false
is_start Start = true
is_start Padding = false
is_start Filled = false

-- the mark of a cell once a payload was stored over it: a start stays one, any other cell is now received
abbrev pub under_payload : Mark → Mark
under_payload Unknown = Received
under_payload Received = Received
under_payload Start = Start
under_payload Padding = Received
under_payload Filled = Received
