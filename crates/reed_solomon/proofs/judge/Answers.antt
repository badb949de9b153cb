use Rattle.std.proofs.Common.{◌≡◌, length, sym, subst, arith, rules}
use Rattle.rowcode.specs.Rows.{IsRow}
use Rattle.rs_code.proofs.Completions.{two_agree}
use Rattle.reed_solomon.specs.Solving.{LocatorsOf}
use Rattle.reed_solomon.proofs.Mending.{locators_apart, none_agrees, only_agrees}
use Rattle.reed_solomon.proofs.Turns.{inserted_front}
use Rattle.reed_solomon.proofs.judge.Goals as goal

pub returns-in_default : goal.returns-in_default
returns-in_default c =
    two_agree c.args.known.now c.args.row.now (record { width_is = c.requires.row; bytes = λ k _. (c.type_inv.row k).fits }) c.in_default.ensures.many

pub solve-requires-clause-apart : goal.solve-requires-clause-apart
solve-requires-clause-apart c =
    let bytes : IsRow 255 c.known_bytes.result = record { width_is = search rules; bytes = λ k l. search rules } in
    let locators : LocatorsOf c.args.known.now c.deref.result.now = subst (LocatorsOf c.args.known.now) (sym c.deref.ensures.0) c.in-Some.ensures.found in
    locators_apart c.args.known.now c.args.row.now c.known_bytes.result c.deref.result.now c.requires.row bytes locators c.known_bytes.ensures

pub returns-else-solve : goal.returns-else-solve
returns-else-solve c =
    let bytes : IsRow 255 c.known_bytes.result = record { width_is = search rules; bytes = λ k l. search rules } in
    let locators : LocatorsOf c.args.known.now c.deref.result.now = subst (LocatorsOf c.args.known.now) (sym c.deref.ensures.0) c.in-Some.ensures.found in
    none_agrees c.args.known.now c.args.row.now c.known_bytes.result c.deref.result.now c.requires.row bytes locators c.known_bytes.ensures
    c.syndromes_of-syndromes.result (search rules) c.syndromes_of-syndromes.ensures (c.solve.ensures.none c.if-solve.false)

pub returns-then-solve : goal.returns-then-solve
returns-then-solve c =
    let bytes : IsRow 255 c.known_bytes.result = record { width_is = search rules; bytes = λ k l. search rules } in
    let locators : LocatorsOf c.args.known.now c.deref.result.now = subst (LocatorsOf c.args.known.now) (sym c.deref.ensures.0) c.in-Some.ensures.found in
    let enough : length c.solve.new.values ≡ length c.deref.result.now = search rules in (
      omega (arith, locators.few, locators.count_is),
      λ after is put.
          only_agrees c.args.known.now c.args.row.now c.known_bytes.result c.deref.result.now c.requires.row bytes locators c.known_bytes.ensures
          c.syndromes_of-syndromes.result (search rules) c.syndromes_of-syndromes.ensures after c.solve.new.values is
          (inserted_front c.args.known.now c.args.row.now after c.solve.new.values _ (omega (arith, enough, locators.count_is)) put)
          (c.solve.ensures.found c.if-solve.true),
    )
