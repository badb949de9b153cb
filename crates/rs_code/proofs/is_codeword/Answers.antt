use Rattle.std.proofs.Common.{rules, ◌∙◌, ◌<◌, sym, ap}
use Rattle.rs_code.specs.Codewords.{syndrome}
use Rattle.rs_code.proofs.LawsHold.{laws_hold}
use Rattle.rs_code.proofs.is_codeword.Goals as goal

pub returns-clause-answer : goal.returns-clause-answer
returns-clause-answer c =
    let same = c.in-Ok.ensures.1.same in (
      λ zero. record {
        is_row = record { width_is = c.in-Ok.ensures.1.long; bytes = λ k _. (c.type_inv.row k).fits };
        syndromes = λ j l. ap (λ row. syndrome row j) (sym same) ∙ sym (c.syndromes_of.ensures j l) ∙ c.are_zero.ensures.0 zero j (search rules);
      },
      λ codeword. c.are_zero.ensures.1 (λ j l. let below : j < 64 = search rules in c.syndromes_of.ensures j below ∙ ap (λ row. syndrome row j) same ∙ codeword.syndromes j below),
    )

pub returns-in_default-clause-laws : goal.returns-in_default-clause-laws
returns-in_default-clause-laws c = laws_hold

pub returns-clause-laws : goal.returns-clause-laws
returns-clause-laws c = laws_hold
