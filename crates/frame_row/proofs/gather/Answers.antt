use Rattle.std.proofs.Common.{arith}
use Rattle.std.proofs.lemmas.List.FromFn.{fill_by_all}
use Rattle.octets.specs.Octets.{byte}
use Rattle.geometry.specs.Cells.{cell}
use Rattle.frame_row.proofs.gather.Goals as goal

pub returns : goal.returns
returns c = fill_by_all (λ k. byte c.args.cells.now (cell c.args.rows.count c.args.row k)) c.loop-byte.bytes _ 0 c.loop-byte.invariant.size (λ k h. c.loop-byte.invariant.done k (omega arith))
