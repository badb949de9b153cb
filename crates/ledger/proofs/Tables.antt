-- When two tables are one: that of a burst that has just started is blank, and a section enters a table in just one way.
use Rattle.std.proofs.Common.{◌≡◌, ℕ, List, replicate, refl, sym, ◌∙◌}
use Rattle.frame.specs.Fields.{Fields}
use Rattle.table.specs.Tables.{Table, blank}
use Rattle.table.specs.Bursts.{started, table_of}
use Rattle.table.specs.Taking.{Entered}
use Rattle.table.proofs.Started.{unmarked}

-- tables are one where all that they hold is
same_table : (one other : Table) → one.rows ≡ other.rows → ((i : ℕ) → one.at i ≡ other.at i) → ((i : ℕ) → one.received i ≡ other.received i)
    → ((i : ℕ) → one.starts i ≡ other.starts i) → one.end ≡ other.end → one.padding ≡ other.padding → one ≡ other
same_table one other rows at received starts end padding = λ x. record {
  rows = rows x;
  at = λ i. at i x;
  received = λ i. received i x;
  starts = λ i. starts i x;
  end = end x;
  padding = padding x;
}

pub started_blank : (R : ℕ) (cells : List ℕ) (n : ℕ) → blank R ≡ table_of (started R) cells (replicate n 0)
started_blank R cells n =
    same_table (blank R) (table_of (started R) cells (replicate n 0)) refl
    (λ i. rw (unmarked n i)) (λ i. rw (unmarked n i)) (λ i. rw (unmarked n i)) refl refl

pub entered_once : (t : Table) (f : Fields) (one other : Table) → Entered t f one → Entered t f other → one ≡ other
entered_once t f one other p q =
    same_table one other (p.rows ∙ sym q.rows) (λ i. p.at i ∙ sym (q.at i)) (λ i. p.received i ∙ sym (q.received i))
    (λ i. p.starts i ∙ sym (q.starts i)) (p.end ∙ sym q.end) (p.padding ∙ sym q.padding)
