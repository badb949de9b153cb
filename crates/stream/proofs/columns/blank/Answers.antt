use Rattle.std.proofs.lemmas.List.{take-replicate}
use Rattle.stream.proofs.columns.blank.Goals as goal

pub returns : goal.returns
returns c = take-replicate c.args.count 256 32 c.requires
