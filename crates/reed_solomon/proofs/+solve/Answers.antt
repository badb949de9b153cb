use Rattle.std.proofs.Common.{◌≡◌, ◌+◌, ◌-◌, length, sym, ◌∙◌, arith, rules, length-take-le}
use Rattle.std.proofs.lemmas.List.{get_or_append_left}
use Rattle.octets.specs.Octets.{byte}
use Rattle.std.proofs.lemmas.Bool.{true≢false}
use Rattle.reed_solomon.proofs.Solved.{zeros_solve, solved_zeros, step_found, step_none, apart_others, last_differs}
use Rattle.reed_solomon.proofs.+solve.Goals as goal

pub returns-in_default-clause-found : goal.returns-in_default-clause-found
returns-in_default-clause-found t c is_zero =
    zeros_solve (byte c.args.locators.now) (byte c.args.values.now) c.args.syndromes.now (length c.args.locators.now) c.in_default.ensures.cases
    (c.are_zero.ensures.0 is_zero)

pub returns-in_default-clause-none : goal.returns-in_default-clause-none
returns-in_default-clause-none t c not_zero y hy solves =
    true≢false (sym (c.are_zero.ensures.1
    (solved_zeros (byte c.args.locators.now) y c.args.syndromes.now (length c.args.locators.now) c.in_default.ensures.cases solves)) ∙ not_zero)

pub solve-requires : goal.solve-requires
solve-requires t c =
    let same_length : length c.eliminate.new.syndromes ≡ length c.args.syndromes.now = search rules in
    let longer : length c.in-Some.others.now + 1 ≡ length c.args.locators.now = c.in-Some.ensures.cases.1 in (
      search rules,
      (
        omega (arith, length-take-le (length c.eliminate.new.syndromes - 1) c.eliminate.new.syndromes (omega arith), longer, same_length, c.requires.syndromes),
        (
          length-take-le (length c.in-Some.others.now) c.args.values.now (omega (arith, longer, c.requires.values)),
          apart_others c.args.locators.now c.in-Some.others.now c.in-Some.locator.now c.args.syndromes.now c.eliminate.new.syndromes c.in-Some.ensures.cases.0
              (λ i. (c.type_inv.locators i).fits) same_length c.eliminate.ensures.others c.requires.apart,
        ),
      ),
    )

pub returns-then-not-solve-clause-none : goal.returns-then-not-solve-clause-none
returns-then-not-solve-clause-none t c same =
    step_none c.args.locators.now c.in-Some.others.now c.in-Some.locator.now c.args.syndromes.now c.eliminate.new.syndromes c.in-Some.ensures.cases.0
    (λ i. (c.type_inv.locators i).fits) (search rules) c.eliminate.ensures.others (c.solve.ensures.none c.if-not-solve.true)

pub divide-requires-clause-differ : goal.divide-requires-clause-differ
divide-requires-clause-differ t c =
    last_differs c.args.locators.now c.in-Some.others.now c.in-Some.locator.now c.args.syndromes.now c.eliminate.new.syndromes c.in-Some.ensures.cases.0
    (λ i. (c.type_inv.locators i).fits) (search rules) c.eliminate.ensures.others c.requires.apart

pub returns-clause-found : goal.returns-clause-found
returns-clause-found t c same =
    step_found c.args.locators.now c.in-Some.others.now c.in-Some.locator.now c.args.syndromes.now c.eliminate.new.syndromes c.in-Some.ensures.cases.0
    (λ i. (c.type_inv.locators i).fits) (search rules) c.eliminate.ensures.others c.divide.new.values c.solve.new.values (λ i. (c.type_inv.values i).fits)
    (λ u l. c.divide.ensures.divided u l ∙ get_or_append_left c.solve.new.values _ 0 u (search rules)) c.divide.ensures.last (c.solve.ensures.found c.if-not-solve.false)
