-- The real-time parameters: 12 bits of delta_t, two flags and 18 bits of address in one number of 32 bits.
use Rattle.std.specs.Prelude.{ℕ, ◌+◌, ◌*◌, ◌/◌, ◌%◌, ◌^◌, cond}
use Rattle.octets.specs.Octets.{bit}
use Rattle.section.specs.declared.timing.RealTime.{RealTime}

-- the fields side by side, highest first
abbrev pub real_time_word : RealTime → ℕ
real_time_word t = t.delta_t * 2 ^ 20 + cond t.table_boundary (2 ^ 19) 0 + cond t.frame_boundary (2 ^ 18) 0 + t.address

-- the fields that stand in a number
abbrev pub real_time_of : ℕ → RealTime
real_time_of word = record {
  delta_t = word / 2 ^ 20;
  table_boundary = bit word 19;
  frame_boundary = bit word 18;
  address = word % 2 ^ 18;
}
