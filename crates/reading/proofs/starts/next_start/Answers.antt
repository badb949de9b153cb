use Rattle.std.proofs.Common.{◌≡◌, ◌+◌, Option, Some, None, unwrap_or, option_map, refl, sym, ◌∙◌, ap, rules, ℕ}
use Rattle.std.proofs.lemmas.Iterator.{YieldsList-from_range}
use Rattle.std.proofs.lemmas.Iterator.Search.{find_from_yields_List}
use borrow.Author.Tests.{tests}
use Rattle.table.specs.Bursts.{start_at}
use Rattle.reading.specs.Reading.{next_start}
use Rattle.reading.proofs.starts.next_start.Goals as goal

same : (o : Option ℕ) → option_map (λ i. i) o ≡ o
same (Some i) = refl
same None = refl

pub returns-clause-value : goal.returns-clause-value
unfolding next_start
returns-clause-value c =
    let found = find_from_yields_List (start_at c.args.marks.now) _ _ c.find.result c.find.ensures.ran (YieldsList-from_range (c.args.place + 1) c.args.limit _ refl refl) (λ x b q k. search (rules, tests)) in
    c.unwrap_or.ensures ∙ ap (λ o. unwrap_or o c.args.limit) (sym (same c.find.result) ∙ found)
