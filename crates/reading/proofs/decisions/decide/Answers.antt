use Rattle.std.proofs.Common.{◌≡◌, ℕ, List, sym, ◌∙◌, subst, rules}
use Rattle.reading.specs.declared.decisions.Decision.{Decision}
use Rattle.reading.specs.declared.decisions.Decision.TheVariants.{NotTold, Wrong}
use Rattle.reading.specs.Decisions.{decision_at}
use Rattle.reading.specs.Laws.{DecidesWhole}
use Rattle.reading.proofs.Heads.{decided_by_head, length_missing}
use Rattle.reading.proofs.Decided.{decides_whole}
use Rattle.reading.proofs.decisions.decide.Goals as goal
use Rattle.reading.proofs.decisions.decide.Goals.{In-Some, In-None, in-4, in_default-matches}

by_value : (cells marks : List ℕ) (place : ℕ) (d : Decision) → d ≡ decision_at cells marks place → DecidesWhole cells marks place d
by_value cells marks place d is = subst (DecidesWhole cells marks place) (sym is) (decides_whole cells marks place)

pub returns-then-not-can_read-clause-whole : goal.returns-then-not-can_read-clause-whole
unfolding decision_at
returns-then-not-can_read-clause-whole c = by_value c.args.cells.now c.args.marks.now c.args.place NotTold (search rules)

pub returns-in-Some-clause-value : goal.returns-in-Some-clause-value
returns-in-Some-clause-value c = c.told.ensures.value ∙ decided_by_head c.args.cells.now c.args.marks.now c.args.place c.in-Some.head c.in-Some.ensures.value (cc)

pub returns-in-Some-clause-whole : goal.returns-in-Some-clause-whole
returns-in-Some-clause-whole c = by_value c.args.cells.now c.args.marks.now c.args.place c.told.result (returns-in-Some-clause-value c)

pub returns-in-None-clause-value : goal.returns-in-None-clause-value
returns-in-None-clause-value c =
    elim c.match-matches.branch [
      | in-4 w ↦ length_missing c.args.cells.now c.args.marks.now c.args.place c.in-None.ensures.value (cc) w.in-4.is
      | in_default-matches w ↦ absurd cc
    ]

pub returns-in-None-clause-whole : goal.returns-in-None-clause-whole
returns-in-None-clause-whole c = by_value c.args.cells.now c.args.marks.now c.args.place NotTold (returns-in-None-clause-value c)

pub returns-in-None-2-clause-whole : goal.returns-in-None-2-clause-whole
unfolding decision_at
returns-in-None-2-clause-whole c = by_value c.args.cells.now c.args.marks.now c.args.place Wrong (search rules)
