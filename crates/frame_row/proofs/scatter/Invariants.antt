use Rattle.std.proofs.Common.{◌≡◌}
use Rattle.geometry.specs.Cells.{cell}
use Rattle.frame_row.proofs.Puts.{PutTo}
use Rattle.frame_row.proofs.scatter.Given as goal

abbrev pub invariant-loop-byte : goal.invariant-loop-byte
invariant-loop-byte l = record {
  at : l.at ≡ cell l.rows.count l.row l.byte-index;
  put : PutTo l.rows.count l.row l.byte-index l.bytes l.initial.cells l.cells;
}
