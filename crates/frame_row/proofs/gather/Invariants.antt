use Rattle.std.proofs.Common.{◌≡◌, ℕ, ◌<◌, ◌-◌, ◌^◌, min, length}
use Rattle.octets.specs.Octets.{byte}
use Rattle.geometry.specs.Cells.{cell}
use Rattle.frame_row.proofs.gather.Given as goal

abbrev pub invariant-loop-byte : goal.invariant-loop-byte
invariant-loop-byte l = record {
  at : l.at ≡ min (cell l.rows.count l.row l.byte-index) (2 ^ 64 - 1);
  size : length l.bytes ≡ length l.initial.bytes;
  done : (k : ℕ) → k < l.byte-index → byte l.bytes k ≡ byte l.cells (cell l.rows.count l.row k);
}
