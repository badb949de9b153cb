use Rattle.frame.proofs.one_frame.Goals as goal
use Rattle.frame.proofs.OneFrame.{one_frame}

pub returns : goal.returns
returns g c = one_frame g.C.RowCode.check_columns g.C.RowCode.codeword g.met.C.RowCode.rows g.met.C.RowCode.begins
