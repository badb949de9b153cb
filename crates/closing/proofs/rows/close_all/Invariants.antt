use Rattle.std.proofs.Common.{◌≡◌, ◌<◌, replicate}
use Rattle.closing.proofs.AllRows.{ClosedTo}
use Rattle.closing.proofs.rows.close_all.Given as goal

abbrev pub invariant-loop-row : goal.invariant-loop-row
invariant-loop-row g l = record {
  closed : ClosedTo g.C.RowCode.check_columns g.C.RowCode.codeword l.rows.count l.row l.fn.cells l.fn.marks l.cells l.marks l.names;
  scratch : 0 < l.row → l.scratch ≡ replicate 255 0;
}
