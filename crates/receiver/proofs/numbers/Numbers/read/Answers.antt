use Rattle.receiver.proofs.Columns.{read_and_inside}
use Rattle.receiver.proofs.numbers.Numbers.read.Goals as goal

pub returns : goal.returns
returns c = read_and_inside c.args.self.rows.count c.args.check_columns c.count.result c.args.section.now c.read.result c.count.ensures.value c.read.ensures.answer
