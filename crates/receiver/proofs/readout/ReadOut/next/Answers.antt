use Rattle.ledger.specs.Runs.{nexts}
use Rattle.ledger.proofs.Ways.{nearer}
use Rattle.receiver.specs.Views.{read_out_of, placed_of}
use Rattle.receiver.proofs.readout.ReadOut.next.Goals as goal

pub returns-clause-steps : goal.returns-clause-steps
returns-clause-steps g c =
    λ sizes h burst front back cells marks run.
    nexts h burst front back (read_out_of c.args.self.now) (read_out_of c.go_to.new.self) cells marks _ run c.go_to.ensures

pub returns-clause-nearer : goal.returns-clause-nearer
returns-clause-nearer g c = nearer (read_out_of c.args.self.now) (read_out_of c.go_to.new.self) placed_of c.go_to.result c.go_to.ensures
