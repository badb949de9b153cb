-- Where a read-out goes on to from a place, by what is decided of it.
use Rattle.std.proofs.Common.{◌≡◌, ℕ, ◌+◌, ◌<◌, false, List, length, refl, sym, ap, ◌∙◌, subst}
use Rattle.reading.specs.declared.decisions.Decision.{Decision}
use Rattle.reading.specs.declared.decisions.Decision.TheVariants.{NotTold, Wrong, Incomplete}
use Rattle.reading.specs.Decisions.{decision_at}
use Rattle.reading.specs.Reading.{next_start, place_by, is_whole, GoesOn, goes_over}

module _ (cells marks : List ℕ) (from place : ℕ) where
  goes_by : (d : Decision) → d ≡ decision_at cells marks place → is_whole d ≡ false → place < length cells → GoesOn cells marks from place → GoesOn cells marks from (place_by d marks (length cells) place)
  goes_by d is not below goes =
      subst (λ x. GoesOn cells marks from (place_by x marks (length cells) place)) (sym is) (goes_over place goes below (ap is_whole (sym is) ∙ not))

  pub over_incomplete : (n : ℕ) → Incomplete n ≡ decision_at cells marks place → place < length cells → GoesOn cells marks from place → GoesOn cells marks from (place + n)
  over_incomplete n is = goes_by (Incomplete n) is refl

  pub past_untold : NotTold ≡ decision_at cells marks place → place < length cells → GoesOn cells marks from place → GoesOn cells marks from (next_start marks (length cells) place)
  past_untold is = goes_by NotTold is refl

  pub past_wrong : Wrong ≡ decision_at cells marks place → place < length cells → GoesOn cells marks from place → GoesOn cells marks from (next_start marks (length cells) place)
  past_wrong is = goes_by Wrong is refl
