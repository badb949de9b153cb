-- What ties a history to a world: before a start there is no ledger; while the burst is open the ledger is the table that the burst
-- makes with its buffers; and once it is closed the ledger has the same known cells as they. Calls that change nothing keep it.
use Rattle.std.proofs.Common.{◌≡◌, ℕ, ◌<◌, ◌≤◌, true, false, List, ◌∷◌, length, Option, Some, None, refl, sym, ◌∙◌, subst}
use Rattle.std.specs.List.{Contains}
use Rattle.std.proofs.lemmas.Bool.{and_right}
use Rattle.octets.specs.Octets.{byte}
use Rattle.geometry.specs.Cells.{table_size, frame_size}
use Rattle.geometry.specs.Ends.{limit_of}
use Rattle.refusal.specs.declared.Refusal.{Refusal}
use Rattle.frame.specs.Frames.{Frame, Lawful, end_of}
use Rattle.frame.specs.Sent.{ComesFrom}
use Rattle.table.specs.Tables.{Table}
use Rattle.table.specs.Bursts.{Numbers, ClosedNumbers, known_at, start_at, table_of}
use Rattle.table.specs.Laws.{Agrees}
use Rattle.reading.specs.Reading.{Placed}
use Rattle.ledger.specs.Calls.{Call, «open», next, done, refused, Event, History, noted, is_start, calls, begun, taken}
use Rattle.ledger.specs.Ledgers.{Ledger}
use Rattle.ledger.specs.Runs.{Stage, unstarted, open_burst, closed_burst, answer_of_next}
use Rattle.ledger.specs.Law.{AllFrom}
use Rattle.ledger.proofs.Inverted.{IsLedger}
use Rattle.ledger.proofs.Brought.{Begins, HasAll}

-- a call that begins nothing, and takes no section
pub record Idle (h : History) (event : Event) : Type 0 where
  pub begins_nothing : begun (event ∷ h) ≡ begun h
  pub takes_nothing : taken (event ∷ h) ≡ taken h

pub refused_idle : (h : History) (call : Call) (e : Refusal) → Idle h (noted call (refused e))
refused_idle h call e =
    let no_start = and_right (is_start call) false refl in
    record { begins_nothing = rw no_start; takes_nothing = rw no_start }

pub open_idle : (h : History) (cells marks : ℕ) → Idle h (noted («open» cells marks) done)
open_idle h cells marks = record { begins_nothing = refl; takes_nothing = refl }

pub next_idle : (h : History) (read_out : ℕ) (answer : Option Placed) → Idle h (noted (next read_out) (answer_of_next answer))
next_idle h read_out (Some datagram) = record { begins_nothing = refl; takes_nothing = refl }
next_idle h read_out None = record { begins_nothing = refl; takes_nothing = refl }

module _ (m : ℕ) (codeword : List ℕ → Type 0) (sizes : ℕ → Option ℕ) where
  pub record Unstarted (h : History) : Type 0 where
    pub not_begun : begun h ≡ false
    pub none : (t : Table) → Ledger m codeword sizes (calls h) t → ⊥

  pub record WhileOpen (h : History) (cells marks : List ℕ) (burst : Numbers) : Type 0 where
    pub cells_size : length cells ≡ frame_size m burst.rows
    pub marks_size : length marks ≡ frame_size m burst.rows
    pub is : Ledger m codeword sizes (calls h) (table_of burst cells marks)
    pub only : IsLedger m codeword sizes (calls h) (table_of burst cells marks)
    pub inside : limit_of burst.rows burst.end burst.padding ≤ table_size burst.rows
    pub stored : HasAll (taken h) (table_of burst cells marks)
    -- with each lawful frame that all taken sections came from
    pub agrees : (frame : Frame) → Lawful m codeword burst.rows frame → AllFrom m burst.rows frame h → Agrees frame (table_of burst cells marks)
    pub begins : (frame : Frame) → Lawful m codeword burst.rows frame → AllFrom m burst.rows frame h → (a : ℕ) → start_at marks a ≡ true → Begins frame a

  -- what a closed burst has of a lawful frame that all taken sections came from: no row was torn
  pub record ClosedAgrees (frame : Frame) (h : History) (cells marks : List ℕ) (limit : ℕ) : Type 0 where
    pub bytes : (i b : ℕ) → known_at cells marks i ≡ Some b → byte frame.cells i ≡ b
    pub beyond : end_of frame ≤ limit
    pub begins : (a : ℕ) → start_at marks a ≡ true → Begins frame a
    pub starts : (t : Table) → Ledger m codeword sizes (calls h) t → (a : ℕ) → t.starts a ≡ start_at marks a
    pub stored : (t : Table) → Ledger m codeword sizes (calls h) t → HasAll (taken h) t

  pub record WhenClosed (h : History) (cells marks : List ℕ) (end : ClosedNumbers) : Type 0 where
    pub cells_size : length cells ≡ frame_size m end.rows
    pub marks_size : length marks ≡ frame_size m end.rows
    pub inside : end.limit ≤ table_size end.rows
    pub some : (t : Table) × Ledger m codeword sizes (calls h) t
    pub rows : (t : Table) → Ledger m codeword sizes (calls h) t → t.rows ≡ end.rows
    pub known : (t : Table) → Ledger m codeword sizes (calls h) t → (i : ℕ) → i < frame_size m end.rows → known_at cells marks i ≡ t.at i
    pub agrees : (frame : Frame) → Lawful m codeword end.rows frame → AllFrom m end.rows frame h → ClosedAgrees frame h cells marks end.limit

  abbrev pub Linked : History → (cells marks : List ℕ) → Stage → Type 0
  Linked h cells marks unstarted = Unstarted h
  Linked h cells marks (open_burst burst) = WhileOpen h cells marks burst
  Linked h cells marks (closed_burst end read_outs) = WhenClosed h cells marks end

  -- ---- calls that change nothing

  -- a call that leaves the ledger as it was
  pub record Spares (h : History) (call : Call) : Type 0 where
    pub on : (t : Table) → Ledger m codeword sizes (calls h) t → Ledger m codeword sizes (call ∷ calls h) t
    pub back : (t : Table) → Ledger m codeword sizes (call ∷ calls h) t → Ledger m codeword sizes (calls h) t

  came_before : (R : ℕ) (frame : Frame) (h : History) (event : Event) → Idle h event → AllFrom m R frame (event ∷ h) → AllFrom m R frame h
  came_before R frame h event idle all = subst (λ ss. (s : List ℕ) → Contains ss s → ComesFrom R m frame s) idle.takes_nothing all

  pub spared : (h : History) (event : Event) (cells marks : List ℕ) (stage : Stage) → Idle h event → Spares h event.call → Linked h cells marks stage
      → Linked (event ∷ h) cells marks stage
  spared h event cells marks unstarted idle spares link =
      record { not_begun = idle.begins_nothing ∙ link.not_begun; none = λ t is. link.none t (spares.back t is) }
  spared h event cells marks (open_burst burst) idle spares link = record {
    cells_size = link.cells_size;
    marks_size = link.marks_size;
    is = spares.on _ link.is;
    only = λ t is. link.only t (spares.back t is);
    inside = link.inside;
    stored = subst (λ ss. HasAll ss (table_of burst cells marks)) (sym idle.takes_nothing) link.stored;
    agrees = λ frame lawful all. link.agrees frame lawful (came_before burst.rows frame h event idle all);
    begins = λ frame lawful all. link.begins frame lawful (came_before burst.rows frame h event idle all);
  }
  spared h event cells marks (closed_burst end read_outs) idle spares link = record {
    cells_size = link.cells_size;
    marks_size = link.marks_size;
    some = (link.some.0, spares.on _ link.some.1);
    rows = λ t is. link.rows t (spares.back t is);
    inside = link.inside;
    known = λ t is. link.known t (spares.back t is);
    agrees = λ frame lawful all.
        let has = link.agrees frame lawful (came_before end.rows frame h event idle all) in
        record {
          bytes = has.bytes;
          beyond = has.beyond;
          begins = has.begins;
          starts = λ t is. has.starts t (spares.back t is);
          stored = λ t is. subst (λ ss. HasAll ss t) (sym idle.takes_nothing) (has.stored t (spares.back t is));
        };
  }
