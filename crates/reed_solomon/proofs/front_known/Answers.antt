-- Each element is what the closure says of its place.
use Rattle.std.proofs.Common.{arith, false, rules, tests}
use Rattle.reed_solomon.proofs.front_known.Goals as goal

pub returns : goal.returns
returns c = record {
  given = λ i l. let called = (c.from_fn.ensures.items.at i false (omega arith)).2 in search (rules, tests);
  rest = λ i l k. let called = (c.from_fn.ensures.items.at i false k).2 in search (rules, tests);
}
