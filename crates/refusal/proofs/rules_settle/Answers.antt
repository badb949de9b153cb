use Rattle.refusal.proofs.Order.{settles}
use Rattle.refusal.proofs.rules_settle.Goals as goal

pub returns : goal.returns
returns c = settles
