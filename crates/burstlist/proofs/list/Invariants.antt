use Rattle.reading.specs.Reading.{cells_left}
use Rattle.receiver.specs.Views.{read_out_of}
use Rattle.burstlist.proofs.list.Given as goal

abbrev pub decreases-loop-address : goal.decreases-loop-address
decreases-loop-address g l = cells_left (read_out_of l.read_out)
