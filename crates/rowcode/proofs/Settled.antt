-- Mend has just one answer for a row, and leaves just one.
use Rattle.std.proofs.Common.{◌≡◌, ℕ, Bool, List, refl, sym, ◌∙◌}
use Rattle.rowcode.specs.Answers.{Mends}
use Rattle.rowcode.specs.declared.Mended.{Mended}
use Rattle.rowcode.specs.declared.Mended.TheVariants.{Filled, Torn, Open}

pub mends_once : (codeword : List ℕ → Type 0) (known : List Bool) (row one other : List ℕ) (answer another : Mended)
    → Mends codeword known row one answer → Mends codeword known row other another → (answer ≡ another) × (one ≡ other)
mends_once codeword known row one other Filled Filled p q = (refl, q.only one p.is)
mends_once codeword known row one other Filled Torn p q = absurd (q.0 one p.is)
mends_once codeword known row one other Filled Open p q = absurd (q.0.differ (p.only q.0.one q.0.one_is ∙ sym (p.only q.0.other q.0.other_is)))
mends_once codeword known row one other Torn Filled p q = absurd (p.0 other q.is)
mends_once codeword known row one other Torn Torn p q = (refl, p.1 ∙ sym q.1)
mends_once codeword known row one other Torn Open p q = absurd (p.0 q.0.one q.0.one_is)
mends_once codeword known row one other Open Filled p q = absurd (p.0.differ (q.only p.0.one p.0.one_is ∙ sym (q.only p.0.other p.0.other_is)))
mends_once codeword known row one other Open Torn p q = absurd (q.0 p.0.one p.0.one_is)
mends_once codeword known row one other Open Open p q = (refl, p.1 ∙ sym q.1)
