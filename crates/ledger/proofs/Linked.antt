-- The history of each run is tied to its world: a start, a take and a close make the tie anew, and other calls keep it.
use Rattle.std.proofs.Common.{◌≡◌, ℕ, ◌≤◌, List, [], ◌∷◌, ◌++◌, length, replicate, Option, Some, None, Ok, refl, sym, ◌∙◌, subst, arith}
use Rattle.std.specs.List.{Contains}
use Rattle.std.proofs.lemmas.Bool.{eqb-true, true≢false}
use Rattle.std.proofs.lemmas.List.{length-replicate}
use Rattle.std.proofs.lemmas.List.Elements.{Contains-append_right}
use Rattle.geometry.specs.Cells.{frame_size}
use Rattle.geometry.specs.Sizes.{buffers_rule}
use Rattle.refusal.specs.declared.Refusal.{Refusal}
use Rattle.refusal.specs.declared.Refusal.TheVariants.{FrameBuffers}
use Rattle.refusal.specs.Rules.{Verdict, Refused, Passes}
use Rattle.refusal.proofs.Order.{when_not_none, or_else_none, first_refuses, refused_first}
use Rattle.section.specs.Rules.{read_rules}
use Rattle.frame.specs.Fields.{fields_of}
use Rattle.frame.specs.Frames.{Frame, end_of}
use Rattle.table.specs.Tables.{Table}
use Rattle.table.specs.Bursts.{Numbers, known_at, started, table_of, closed_numbers}
use Rattle.table.specs.Rules.{start_rules, table_rules, section_rules, take_rules}
use Rattle.table.specs.Taking.{numbers_after, Took}
use Rattle.table.specs.Closing.{close_rules, Closed}
use Rattle.table.proofs.Admitted.{limit_reaches}
use Rattle.table.proofs.Order.{rest_passes, back_passes}
use Rattle.table.proofs.Started.{unmarked, nothing_known}
use Rattle.table.proofs.Takes.{takes_entered, takes_keeping}
use Rattle.ledger.specs.Calls.{start, take, close, «open», next, done, closed, refused, History, noted, calls, taken}
use Rattle.ledger.specs.Ledgers
use Rattle.ledger.specs.Ledgers.{RowSettled, Settled, Ledger, anew}
use Rattle.ledger.specs.Runs.{Stage, open_burst, closed_burst, World, Run, new, starts, start_refused, start_refused_elsewhere, takes, take_refused, take_refused_elsewhere, closes, close_refused, close_refused_elsewhere, opens, open_refused, nexts, answer_of_next}
use Rattle.ledger.specs.Law.{AllFrom}
use Rattle.ledger.proofs.Tables.{started_blank, entered_once}
use Rattle.ledger.proofs.Inverted.{none_before, after_start, after_refused_start, after_take, after_refused_take, after_close, after_refused_close, after_open, after_next}
use Rattle.ledger.proofs.Brought.{has_none, has_more, has_own, has_still, own_datagram, begins_still, inside_still}
use Rattle.ledger.proofs.AtClose.{settled_carried, closed_bytes, closed_starts}
use Rattle.ledger.proofs.Rows.{by_rows, row_closes, closes_once}
use Rattle.ledger.proofs.Links.{refused_idle, open_idle, next_idle, WhileOpen, WhenClosed, Linked, Spares, spared}

-- buffers that 2 does not refuse have a byte for each cell
fitting : (m R cells marks : ℕ) → buffers_rule m R cells marks ≡ None → (cells ≡ frame_size m R) × (marks ≡ frame_size m R)
fitting m R cells marks none =
    let both = or_else_none _ _ none in
    (eqb-true _ _ (when_not_none _ _ both.0), eqb-true _ _ (when_not_none _ _ both.1))

-- a refusal by the first rule is one whatever rules follow
refused_alike : (rule : Verdict) (rules others : List Verdict) (e f : Refusal) → rule ≡ Some f → Refused (rule ∷ rules) e → Refused (rule ∷ others) e
refused_alike rule rules others e f is refuses = first_refuses (rule ∷ others) e (rw is (rw is at (refused_first (rule ∷ rules) e refuses)))

-- so a take with buffers of another size is refused on the burst's own table as on any other
pub refused_elsewhere : (m : ℕ) (burst : Numbers) (section cells marks others other_marks : List ℕ) (e : Refusal)
    → buffers_rule m burst.rows (length others) (length other_marks) ≡ Some FrameBuffers
    → Refused (take_rules m (table_of burst others other_marks) section (length others) (length other_marks)) e
    → Refused (take_rules m (table_of burst cells marks) section (length others) (length other_marks)) e
refused_elsewhere m burst section cells marks others other_marks e sizes_differ refuses =
    refused_alike _ (section_rules m (table_of burst others other_marks) section) (section_rules m (table_of burst cells marks) section) e FrameBuffers sizes_differ refuses

module _ (m : ℕ) (codeword : List ℕ → Type 0) (few : m ≤ 64) (sizes : ℕ → Option ℕ) where
  -- ---- calls that change nothing

  -- a refused start is one, and so are a refused take and a refused close of an open burst, whatever the sizes of their buffers
  start_refuses : (h : History) (code cells_size marks_size : ℕ) (e : Refusal) (cells marks : List ℕ) (stage : Stage)
      → Linked m codeword sizes h cells marks stage → Refused (start_rules sizes m code cells_size marks_size) e
      → Linked m codeword sizes (noted (start code cells_size marks_size) (refused e) ∷ h) cells marks stage
  start_refuses h code cells_size marks_size e cells marks stage link refuses =
      spared m codeword sizes h (noted (start code cells_size marks_size) (refused e)) cells marks stage (refused_idle h _ e) (record {
        on = λ t is. Ledgers.kept_at_start (calls h) t code cells_size marks_size e is refuses;
        back = λ t is. after_refused_start m codeword sizes (calls h) code cells_size marks_size t e is refuses;
      }) link

  take_refuses : (h : History) (section : List ℕ) (arrival cells_size marks_size : ℕ) (e : Refusal) (cells marks : List ℕ) (burst : Numbers)
      → WhileOpen m codeword sizes h cells marks burst → Refused (take_rules m (table_of burst cells marks) section cells_size marks_size) e
      → WhileOpen m codeword sizes (noted (take section arrival cells_size marks_size) (refused e) ∷ h) cells marks burst
  take_refuses h section arrival cells_size marks_size e cells marks burst link refuses =
      spared m codeword sizes h (noted (take section arrival cells_size marks_size) (refused e)) cells marks (open_burst burst) (refused_idle h _ e) (record {
        on = λ t is.
            Ledgers.kept_at_take (calls h) t section arrival cells_size marks_size e is
            (subst (λ u. Refused (take_rules m u section cells_size marks_size) e) (sym (link.only t is)) refuses);
        back = λ t is. after_refused_take m codeword sizes (calls h) section arrival cells_size marks_size t _ e is link.only refuses;
      }) link

  close_refuses : (h : History) (cells_size marks_size scratch names : ℕ) (e : Refusal) (cells marks : List ℕ) (burst : Numbers)
      → WhileOpen m codeword sizes h cells marks burst → Refused (close_rules m burst.rows cells_size marks_size scratch names) e
      → WhileOpen m codeword sizes (noted (close cells_size marks_size scratch names) (refused e) ∷ h) cells marks burst
  close_refuses h cells_size marks_size scratch names e cells marks burst link refuses =
      spared m codeword sizes h (noted (close cells_size marks_size scratch names) (refused e)) cells marks (open_burst burst) (refused_idle h _ e) (record {
        on = λ t is.
            Ledgers.kept_at_close (calls h) t cells_size marks_size scratch names e is
            (subst (λ (u : Table). Refused (close_rules m u.rows cells_size marks_size scratch names) e) (sym (link.only t is)) refuses);
        back = λ t is. after_refused_close m codeword sizes (calls h) cells_size marks_size scratch names t (table_of burst cells marks) e is link.only refuses;
      }) link

  -- open and next, whatever they answer
  open_spares : (h : History) (cells_size marks_size : ℕ) → Spares m codeword sizes h («open» cells_size marks_size)
  open_spares h cells_size marks_size = record {
    on = λ t is. Ledgers.kept_at_open (calls h) t cells_size marks_size is;
    back = λ t is. after_open m codeword sizes (calls h) cells_size marks_size t is;
  }

  next_spares : (h : History) (read_out : ℕ) → Spares m codeword sizes h (next read_out)
  next_spares h read_out = record {
    on = λ t is. Ledgers.kept_at_next (calls h) t read_out is;
    back = λ t is. after_next m codeword sizes (calls h) read_out t is;
  }

  -- ---- calls that are not refused

  -- start, for R rows
  begins : (h : History) (code : ℕ) (cells marks : List ℕ) (R : ℕ) → Passes (start_rules sizes m code (length cells) (length marks)) → sizes code ≡ Some R
      → WhileOpen m codeword sizes (noted (start code (length cells) (length marks)) done ∷ h) cells (replicate (length marks) 0) (started R)
  begins h code cells marks R passes size =
      let fit = fitting m R (length cells) (length marks) (rw size at (passes.none 1)) in
      let blank_is = started_blank R cells (length marks) in
      record {
        cells_size = fit.0;
        marks_size = length-replicate (length marks) 0 ∙ fit.1;
        is = subst (Ledger m codeword sizes _) blank_is (anew (calls h) R code (length cells) (length marks) passes size);
        only = λ t is. after_start m codeword sizes (calls h) R code (length cells) (length marks) t is passes size ∙ blank_is;
        inside = omega arith;
        stored = has_none (table_of (started R) cells (replicate (length marks) 0));
        agrees = λ frame lawful all. nothing_known frame R cells (length marks);
        begins = λ frame lawful all a is. absurd (true≢false (sym is ∙ rw (unmarked (length marks) a)));
      }

  goes_on : (h : History) (section : List ℕ) (arrival : ℕ) (burst : Numbers) (cells marks cells_after marks_after : List ℕ) → WhileOpen m codeword sizes h cells marks burst
      → Passes (take_rules m (table_of burst cells marks) section (length cells) (length marks))
      → Took (fields_of section) arrival burst cells marks (numbers_after (fields_of section) arrival burst) cells_after marks_after
      → WhileOpen m codeword sizes (noted (take section arrival (length cells) (length marks)) done ∷ h) cells_after marks_after (numbers_after (fields_of section) arrival burst)
  goes_on h section arrival burst cells marks cells_after marks_after link passes took =
      let f = fields_of section in
      let t = table_of burst cells marks in
      let after = numbers_after f arrival burst in
      let t_after = table_of after cells_after marks_after in
      let entered = takes_entered {T = Unit {0}} m section arrival burst cells marks after cells_after marks_after (Ok tt) (passes, took) in
      let event = noted (take section arrival (length cells) (length marks)) done in
      let came = λ (frame : Frame) (all : AllFrom m burst.rows frame (event ∷ h)). all section (0, omega arith, refl) in
      let before = λ (frame : Frame) (all : AllFrom m burst.rows frame (event ∷ h)) (s : List ℕ) (has : Contains (taken h) s).
      all s (Contains-append_right (section ∷ []) (taken h) s has) in
      record {
        cells_size = took.cells_size ∙ link.cells_size;
        marks_size = took.marks_size ∙ link.marks_size;
        is = Ledgers.enters (calls h) t t_after section arrival (length cells) (length marks) link.is passes entered;
        only = λ u is.
            entered_once t f u t_after
            (after_take m codeword sizes (calls h) section arrival (length cells) (length marks) u t is link.only passes) entered;
        inside =
            let known = back_passes (read_rules burst.rows m section) (table_rules t f) (rest_passes _ _ passes) in
            inside_still t f t_after entered (known.none 0) link.inside;
        stored =
            has_more section (taken h) t_after (has_own t f t_after entered)
            (λ s has datagram. has_still t f t_after entered (fields_of s) (link.stored s has datagram));
        agrees = λ frame lawful all.
            takes_keeping {T = Unit {0}} m codeword t section t_after (Ok tt) few entered frame lawful
            (link.agrees frame lawful (before frame all)) (came frame all);
        begins = λ frame lawful all.
            begins_still t f t_after entered frame (own_datagram m burst.rows frame section few (came frame all)) (link.begins frame lawful (before frame all));
      }

  ends : (h : History) (burst : Numbers) (cells marks cells_after marks_after scratch_after names_after : List ℕ) (scratch names : ℕ) → WhileOpen m codeword sizes h cells marks burst
      → Passes (close_rules m burst.rows (length cells) (length marks) scratch names)
      → Closed m codeword burst.rows cells marks cells_after marks_after scratch_after names_after
      → WhenClosed m codeword sizes (noted (close (length cells) (length marks) scratch names) (closed names_after) ∷ h) cells_after marks_after (closed_numbers burst)
  ends h burst cells marks cells_after marks_after scratch_after names_after scratch names link passes buffers =
      record {
        cells_size = buffers.cells_size ∙ link.cells_size;
        marks_size = buffers.marks_size ∙ link.marks_size;
        inside = link.inside;
        some = (t_after, Ledgers.settled (calls h) t t_after (length cells) (length marks) scratch names link.is passes own);
        rows = λ u is. (its u is).rows;
        known = λ u is.
            by_rows m burst.rows (λ i. known_at cells_after marks_after i ≡ u.at i)
            (λ r below.
            let one = own.each_row r below in
            let other = (its u is).each_row r below in
            closes_once m codeword burst.rows t.at r t_after.at u.at one.0 other.0 one.1 other.1);
        agrees = λ frame lawful all.
            let agrees = link.agrees frame lawful all in
            let same = closed_starts m codeword frame burst cells marks lawful agrees link.marks_size cells_after marks_after scratch_after names_after buffers in
            record {
              bytes = closed_bytes m codeword frame burst cells marks lawful agrees link.marks_size cells_after marks_after scratch_after names_after buffers;
              beyond = limit_reaches burst.rows (end_of frame) burst.end burst.padding agrees.end agrees.padding lawful.datagrams.fit;
              begins = λ a is. link.begins frame lawful all a (sym (same a) ∙ is);
              starts = λ u is a. (its u is).starts a ∙ sym (same a);
              stored = λ u is section has datagram.
                  settled_carried m codeword frame burst cells marks lawful agrees link.marks_size u (its u is) (fields_of section) (link.stored section has datagram);
            };
      }
    where
      t : Table
      t = table_of burst cells marks

      -- what it makes of that
      t_after : Table
      t_after = record t { at = known_at cells_after marks_after }

      own : Settled m codeword t t_after
      own = record {
        rows = refl;
        each_row = λ r below.
            let row = buffers.each_row r below in
            (row.0, row_closes m codeword burst.rows cells marks cells_after marks_after r row.0 row.1.1);
        received = λ i. refl;
        starts = λ i. refl;
        end = refl;
        padding = refl;
      }

      its : (u : Table) → Ledger m codeword sizes (close (length cells) (length marks) scratch names ∷ calls h) u → Settled m codeword t u
      its u is = after_close m codeword sizes (calls h) (length cells) (length marks) scratch names u t is link.only passes

  -- ---- all runs

  pub linked : (h : History) (w : World) → Run m codeword sizes h w → Linked m codeword sizes h w.cells w.marks w.stage
  linked _ _ (new cells marks) = record { not_begun = refl; none = none_before m codeword sizes }
  linked _ _ (starts h w code cells marks marks_after burst run ((passes, begun_so), _)) =
      rw (begun_so.marks_are_0, begun_so.numbers) (begins h code cells marks burst.rows passes begun_so.rows)
  linked _ _ (start_refused h code cells marks marks_after stage e run (refuses, stays)) =
      rw stays (start_refuses h code (length cells) (length marks) e cells marks stage (linked h _ run) refuses)
  linked _ _ (start_refused_elsewhere h w code cells marks marks_after e run (refuses, _)) =
      start_refuses h code (length cells) (length marks) e w.cells w.marks w.stage (linked h w run) refuses
  linked _ _ (takes h section arrival burst after cells marks cells_after marks_after run ((passes, took), _)) =
      rw took.numbers (goes_on h section arrival burst cells marks cells_after marks_after (linked h _ run) passes (rw took.numbers at took))
  linked _ _ (take_refused h section arrival burst after cells marks cells_after marks_after e run (refuses, stays)) =
      rw (stays.0, stays.1, stays.2) (take_refuses h section arrival (length cells) (length marks) e cells marks burst (linked h _ run) refuses)
  linked _ _ (take_refused_elsewhere h section arrival burst after cells marks others other_marks others_after other_marks_after e run sizes_differ (refuses, stays)) =
      rw stays.0
      (take_refuses h section arrival (length others) (length other_marks) e cells marks burst (linked h _ run)
      (refused_elsewhere m burst section cells marks others other_marks e sizes_differ refuses))
  linked _ _ (closes h burst cells marks scratch names cells_after marks_after scratch_after names_after after run ((passes, (buffers, numbers)), _, _)) =
      rw numbers (ends h burst cells marks cells_after marks_after scratch_after names_after (length scratch) (length names) (linked h _ run) passes buffers)
  linked _ _ (close_refused h burst back cells marks scratch names cells_after marks_after scratch_after names_after e run (refuses, stays, gives_back)) =
      rw (gives_back, stays.0, stays.1) (close_refuses h (length cells) (length marks) (length scratch) (length names) e cells marks burst (linked h _ run) refuses)
  linked _ _ (close_refused_elsewhere h burst back cells marks others other_marks scratch names others_after other_marks_after scratch_after names_after e run _ (refuses, _, gives_back)) =
      rw gives_back (close_refuses h (length others) (length other_marks) (length scratch) (length names) e cells marks burst (linked h _ run) refuses)
  linked _ _ (opens h burst read_outs read_out cells marks run says) =
      spared m codeword sizes h (noted («open» (length cells) (length marks)) done) cells marks (closed_burst burst read_outs) (open_idle h _ _) (open_spares h _ _) (linked h _ run)
  linked _ _ (open_refused h burst read_outs cells marks others other_marks e run says) =
      spared m codeword sizes h (noted («open» (length others) (length other_marks)) (refused e)) cells marks (closed_burst burst read_outs) (refused_idle h _ e) (open_spares h _ _) (linked h _ run)
  linked _ _ (nexts h burst front back before after cells marks answer run says) =
      spared m codeword sizes h (noted (next (length front)) (answer_of_next answer)) cells marks (closed_burst burst (front ++ (after ∷ back))) (next_idle h _ answer) (next_spares h _) (linked h _ run)
