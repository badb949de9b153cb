use Rattle.stream.proofs.Pieces.{pieces_law}
use Rattle.stream.proofs.Runs.{run_law}
use Rattle.stream.proofs.cutting.Cutter.new.Goals as goal

pub returns-clause-law : goal.returns-clause-law
returns-clause-law c = pieces_law

pub returns-clause-runs : goal.returns-clause-runs
returns-clause-runs c = run_law
