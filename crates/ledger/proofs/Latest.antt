-- What the latest call of a run answered, read on the ledger before it.
use Rattle.std.proofs.Common.{◌≡◌, ℕ, ◌<◌, ◌≤◌, List, [], ◌∷◌, length, Option, sym, subst}
use Rattle.octets.specs.Octets.{byte}
use Rattle.frame.specs.Frames.{Frame, Lawful}
use Rattle.table.specs.Tables.{Table}
use Rattle.table.specs.Bursts.{Numbers, table_of}
use Rattle.table.specs.Rules.{take_rules}
use Rattle.table.specs.Closing.{Closed}
use Rattle.table.specs.Laws.{Agrees}
use Rattle.ledger.specs.Calls.{Call, start, take, close, «open», next, Answer, done, closed, handed, at_end, refused, History, calls}
use Rattle.ledger.specs.Ledgers.{Ledger}
use Rattle.ledger.specs.Runs.{Stage, closed_burst, World, world, Run, new, starts, start_refused, start_refused_elsewhere, takes, take_refused, take_refused_elsewhere, closes, close_refused, close_refused_elsewhere, opens, open_refused, nexts}
use Rattle.ledger.specs.Law.{Named, AllFrom, AnswersBy}
use Rattle.ledger.proofs.Rows.{row_closes, row_named}
use Rattle.ledger.proofs.Links.{WhileOpen}
use Rattle.ledger.proofs.Linked.{refused_elsewhere, linked}

module _ (m : ℕ) (codeword : List ℕ → Type 0) (few : m ≤ 64) (sizes : ℕ → Option ℕ) where
  -- take: its answer, and that the ledger agrees with each lawful frame that all sections taken so far came from
  pub record TakeTold (h : History) (section : List ℕ) (cells marks : ℕ) (answer : Answer) (t : Table) : Type 0 where
    pub answered : AnswersBy (take_rules m t section cells marks) answer
    pub agrees : (frame : Frame) → Lawful m codeword t.rows frame → AllFrom m t.rows frame h → Agrees frame t

  -- close: the names of the rows
  abbrev pub RowsNamed : World → (names : List ℕ) → Table → Type 0
  RowsNamed w names t = (length names ≡ t.rows) × ((r : ℕ) → r < t.rows → Named m codeword t w r (byte names r))

  abbrev pub CloseTold : World → Answer → Table → Type 0
  CloseTold w done t = Unit {0}
  CloseTold w (closed names) t = RowsNamed w names t
  CloseTold w (handed datagram) t = Unit {0}
  CloseTold w at_end t = Unit {0}
  CloseTold w (refused e) t = Unit {0}

  abbrev pub Told : World → History → Call → Answer → Table → Type 0
  Told w h (start code cells marks) answer t = Unit {0}
  Told w h (take section arrival cells marks) answer t = TakeTold h section cells marks answer t
  Told w h (close cells marks scratch names) answer t = CloseTold w answer t
  Told w h («open» cells marks) answer t = Unit {0}
  Told w h (next read_out) answer t = Unit {0}

  abbrev pub LatestTold : World → History → Type 0
  LatestTold w [] = Unit {0}
  LatestTold w (event ∷ h) = (t : Table) → Ledger m codeword sizes (calls h) t → Told w h event.call event.answer t

  took_told : (h : History) (cells marks : List ℕ) (burst : Numbers) (section : List ℕ) (cells_size marks_size : ℕ) (answer : Answer)
      → WhileOpen m codeword sizes h cells marks burst
      → AnswersBy (take_rules m (table_of burst cells marks) section cells_size marks_size) answer
      → (t : Table) → Ledger m codeword sizes (calls h) t → TakeTold h section cells_size marks_size answer t
  took_told h cells marks burst section cells_size marks_size answer link answers t is =
      subst (TakeTold h section cells_size marks_size answer) (sym (link.only t is)) (record { answered = answers; agrees = link.agrees })

  closed_told : (h : History) (cells marks cells_after marks_after scratch_after names_after : List ℕ) (burst : Numbers) (stage : Stage)
      → WhileOpen m codeword sizes h cells marks burst
      → Closed m codeword burst.rows cells marks cells_after marks_after scratch_after names_after
      → (t : Table) → Ledger m codeword sizes (calls h) t → RowsNamed (world cells_after marks_after stage) names_after t
  closed_told h cells marks cells_after marks_after scratch_after names_after burst stage link buffers t is =
      subst (RowsNamed (world cells_after marks_after stage) names_after) (sym (link.only t is)) (
        buffers.names_size,
        λ r below.
            let row = buffers.each_row r below in
            row_named m codeword (table_of burst cells marks) (world cells_after marks_after stage) r (byte names_after r) row.0 row.1.0
            (row_closes m codeword burst.rows cells marks cells_after marks_after r row.0 row.1.1),
      )

  pub latest_told : (h : History) (w : World) → Run m codeword sizes h w → LatestTold w h
  latest_told _ _ (new cells marks) = tt
  latest_told _ _ (starts h w code cells marks marks_after burst run says) = λ t is. tt
  latest_told _ _ (start_refused h code cells marks marks_after stage e run says) = λ t is. tt
  latest_told _ _ (start_refused_elsewhere h w code cells marks marks_after e run says) = λ t is. tt
  latest_told _ _ (takes h section arrival burst after cells marks cells_after marks_after run ((passes, _), _)) =
      took_told h cells marks burst section (length cells) (length marks) done (linked m codeword few sizes h _ run) passes
  latest_told _ _ (take_refused h section arrival burst after cells marks cells_after marks_after e run (refuses, _)) =
      took_told h cells marks burst section (length cells) (length marks) (refused e) (linked m codeword few sizes h _ run) refuses
  latest_told _ _ (take_refused_elsewhere h section arrival burst after cells marks others other_marks others_after other_marks_after e run sizes_differ (refuses, _)) =
      took_told h cells marks burst section (length others) (length other_marks) (refused e) (linked m codeword few sizes h _ run)
      (refused_elsewhere m burst section cells marks others other_marks e sizes_differ refuses)
  latest_told _ _ (closes h burst cells marks scratch names cells_after marks_after scratch_after names_after after run ((_, (buffers, _)), _, _)) =
      closed_told h cells marks cells_after marks_after scratch_after names_after burst (closed_burst after []) (linked m codeword few sizes h _ run) buffers
  latest_told _ _ (close_refused h burst back cells marks scratch names cells_after marks_after scratch_after names_after e run says) = λ t is. tt
  latest_told _ _ (close_refused_elsewhere h burst back cells marks others other_marks scratch names others_after other_marks_after scratch_after names_after e run first says) = λ t is. tt
  latest_told _ _ (opens h burst read_outs read_out cells marks run says) = λ t is. tt
  latest_told _ _ (open_refused h burst read_outs cells marks others other_marks e run says) = λ t is. tt
  latest_told _ _ (nexts h burst front back before after cells marks answer run says) = λ t is. tt
