use Rattle.std.proofs.Common.{◌≡◌, ◌++◌, take}
use Rattle.std.specs.List.{flat_map}
use Rattle.listing.specs.Parts.{GrownBy}
use Rattle.listing.proofs.parts.put.Given as goal

abbrev pub invariant-loop-part : goal.invariant-loop-part
invariant-loop-part l = record {
  added : l.line ≡ l.initial.line ++ flat_map (λ part. part) (take l.part-index l.parts);
  grown : GrownBy l.part-index l.initial.line l.line;
}
