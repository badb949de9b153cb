use Rattle.std.proofs.Common.{◌≡◌, not, length, ap, arith, sym, ◌∙◌, rules}
use Rattle.reed_solomon.proofs.Counting.{count_none, count_below}
use Rattle.reed_solomon.proofs.Turns.{found, skipped}
use Rattle.reed_solomon.proofs.missing_locators.Goals as goal
use Rattle.reed_solomon.proofs.missing_locators.Goals.{then-not-known-i+else-is_full, else-not-known-i}

pub loop-i-init : goal.loop-i-init
loop-i-init c =
    let empty : length c.new-locators.result.items ≡ 0 = ap length c.new-locators.ensures in
    record { few = omega (arith, empty); count_is = empty ∙ sym (count_none c.args.known.now); at = λ k l. absurd (omega arith) }

pub returns-then-is_full-clause-many : goal.returns-then-is_full-clause-many
returns-then-is_full-clause-many c =
    let full : length c.loop-i.locators.items ≡ 64 = search rules in
    omega (arith, count_below c.args.known.now c.loop-i.i 255 (ap not c.if-not-known-i.true) c.loop-i-test.true, c.loop-i.invariant.count_is, full)

pub loop-i-preserved : goal.loop-i-preserved
loop-i-preserved c =
    elim c.if-not-known-i.branch [
      | then-not-known-i+else-is_full w ↦
          found c.args.known.now c.loop-i.locators.items c.loop-i.i w.power_of.result c.if-not-known-i.locators.items
          (search rules) w.if-not-known-i.true w.power_of.ensures (ap (λ b. b.items) w.locators-is ∙ w.push.ensures.items) c.loop-i.invariant
      | else-not-known-i w ↦
          skipped c.args.known.now c.loop-i.locators.items c.loop-i.i c.if-not-known-i.locators.items w.if-not-known-i.false (ap (λ b. b.items) w.locators-is) c.loop-i.invariant
    ]
