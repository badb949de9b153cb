use Rattle.std.proofs.Common.{◌+◌, length, refl, ◌∙◌}
use Rattle.receiver.specs.Views.{numbers_of}
use Rattle.frame.specs.Fields.{fields}
use Rattle.receiver.proofs.Differences.{first_in_parts}
use Rattle.receiver.proofs.numbers.Numbers.first_difference.Goals as goal

pub returns-clause-value : goal.returns-clause-value
returns-clause-value c =
    c.first_unlike.ensures.value
    ∙ first_in_parts (numbers_of c.args.self) (fields c.args.section) c.args.cells.now c.args.marks.now c.first_cell-first.result (c.first_cell-first.result + length c.args.section.payload.now) c.first_cell-first.ensures refl
