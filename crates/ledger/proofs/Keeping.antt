-- Any run keeps the ledger: each part of that, by the link of its history and its world and by what its latest call told.
use Rattle.std.proofs.Common.{◌≡◌, ℕ, ◌<◌, ◌≤◌, true, List, ◌∷◌, length, Option, Err, refl, sym, ap, subst}
use Rattle.std.proofs.lemmas.Bool.{both_ways}
use Rattle.geometry.specs.Cells.{frame_size}
use Rattle.table.specs.Tables.{Table}
use Rattle.table.specs.Bursts.{known_at, table_of}
use Rattle.table.proofs.Takes.{takes_own}
use Rattle.ledger.specs.Calls.{History, next, Answer, at_end, noted, calls, begun}
use Rattle.ledger.specs.Ledgers.{Ledger}
use Rattle.ledger.specs.Runs.{Stage, unstarted, open_burst, closed_burst, Run}
use Rattle.ledger.specs.Law.{KeepsThePromise}
use Rattle.ledger.proofs.Links.{Linked}
use Rattle.ledger.proofs.Linked.{linked}
use Rattle.ledger.proofs.Latest.{LatestTold, latest_told}
use Rattle.ledger.proofs.ReadOuts.{next_told}
use Rattle.ledger.proofs.Handing.{due, ends}

module _ (m : ℕ) (codeword : List ℕ → Type 0) (few : m ≤ 64) (sizes : ℕ → Option ℕ) (h : History) (cells marks : List ℕ) where
  some_ledger : (stage : Stage) → Linked m codeword sizes h cells marks stage → begun h ≡ true → (t : Table) × Ledger m codeword sizes (calls h) t
  some_ledger unstarted link is_begun = absurd (both_ways (begun h) link.not_begun is_begun)
  some_ledger (open_burst burst) link is_begun = (table_of burst cells marks, link.is)
  some_ledger (closed_burst end read_outs) link is_begun = link.some

  sizes_are : (stage : Stage) → Linked m codeword sizes h cells marks stage → (t : Table) → Ledger m codeword sizes (calls h) t
      → (length cells ≡ frame_size m t.rows) × (length marks ≡ frame_size m t.rows)
  sizes_are unstarted link t is = absurd (link.none t is)
  sizes_are (open_burst burst) link t is = rw (link.only t is) (link.cells_size, link.marks_size)
  sizes_are (closed_burst end read_outs) link t is = rw (link.rows t is) (link.cells_size, link.marks_size)

  known_is : (stage : Stage) → Linked m codeword sizes h cells marks stage → (t : Table) → Ledger m codeword sizes (calls h) t
      → (i : ℕ) → i < frame_size m t.rows → known_at cells marks i ≡ t.at i
  known_is unstarted link t is i below = absurd (link.none t is)
  known_is (open_burst burst) link t is i below = ap (λ (u : Table). u.at i) (sym (link.only t is))
  known_is (closed_burst end read_outs) link t is i below = link.known t is i (rw (← link.rows t is) below)

pub keeps : (m : ℕ) (codeword : List ℕ → Type 0) → m ≤ 64 → KeepsThePromise m codeword
keeps m codeword few sizes h w run =
    let link = linked m codeword few sizes h w run in
    let told = λ (past : History) (same : h ≡ past). subst (LatestTold m codeword few sizes w) same (latest_told m codeword few sizes h w run) in
    let next_of = λ (before : History) (k : ℕ) (answer : Answer) (same : h ≡ noted (next k) answer ∷ before).
    next_told m codeword sizes (subst (λ (past : History). Run m codeword sizes past w) same run) in
    record {
      ledger = some_ledger m codeword few sizes h w.cells w.marks w.stage link;
      sizes_are = sizes_are m codeword few sizes h w.cells w.marks w.stage link;
      known = known_is m codeword few sizes h w.cells w.marks w.stage link;
      answered = λ before section arrival cells marks answer t is before_is. (told _ is t before_is).answered;
      named = λ before cells marks scratch room names t is before_is. told _ is t before_is;
      welcome = λ before section arrival cells marks e t frame is before_is lawful all comes.
          let take_told = told _ is t before_is in
          takes_own {T = Unit {0}} m codeword t section cells marks (λ _. Unit {0}) (Err e) few take_told.answered
          frame lawful (take_told.agrees frame lawful all) comes;
      hands_out_due = λ before k t frame is before_is lawful all.
          due m codeword few sizes before k at_end (next_of before k at_end is) t before_is frame lawful all refl;
      ends = λ before k answer t is before_is many. ends m codeword few sizes before k answer (next_of before k answer is) t before_is many;
    }
