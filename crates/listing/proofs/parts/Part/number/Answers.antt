use Rattle.std.proofs.Common.{arith, lit<, length-append}
use Rattle.std.proofs.lemmas.List.{length-replicate}
use Rattle.std.proofs.lemmas.Fmt.{length-decimal-le}
use Rattle.listing.proofs.parts.Part.number.Goals as goal

pub invariant_of-result : goal.invariant_of-result
invariant_of-result c =
    let digits = length-decimal-le 20 c.args.number (lit< tt) (omega arith) (omega arith) in
    rw (length-append, length-replicate) (omega arith)
