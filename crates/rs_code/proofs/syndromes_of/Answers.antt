use Rattle.std.proofs.Common.{◌≢◌, ◌∙◌, arith, length-set}
use Rattle.std.proofs.lemmas.List.{get_or-set_same, get_or-set_other}
use borrow.Author.Count.{below_more}
use Rattle.rs_code.proofs.syndromes_of.Goals as goal

pub loop-j-preserved : goal.loop-j-preserved
loop-j-preserved c = record {
  long = length-set c.loop-j.syndromes c.loop-j.j c.syndrome_of.result ∙ c.loop-j.invariant.long;
  are = below_more _ _
      (λ k h. let ne : k ≢ c.loop-j.j = omega arith in get_or-set_other c.loop-j.syndromes c.loop-j.j k c.syndrome_of.result 0 ne ∙ c.loop-j.invariant.are k h)
      (get_or-set_same c.loop-j.syndromes c.loop-j.j c.syndrome_of.result 0 (omega (arith, c.loop-j.invariant.long)) ∙ c.syndrome_of.ensures);
}
