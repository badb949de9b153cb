-- Runs: what lists of calls can lead to. A step is just what the contract of its call says: nothing else is assumed of a call.
use Rattle.std.specs.Prelude.{◌≡◌, ℕ, List, [], ◌∷◌, ◌++◌, length, Option, Some, None, Result, Ok, Err}
use Rattle.geometry.specs.Sizes.{buffers_rule}
use Rattle.refusal.specs.declared.Refusal.{Refusal}
use Rattle.refusal.specs.declared.Refusal.TheVariants.{FrameBuffers}
use Rattle.table.specs.Bursts.{Numbers, ClosedNumbers}
use Rattle.table.specs.Calls.{StartAnswers, StartStays, TakeAnswers, TakeStays, CloseAnswers, CloseStays, GivesBack, reason}
use Rattle.reading.specs.Reading.{ReadOut, Placed, OpenAnswers, NextAnswers}
use Rattle.ledger.specs.Calls.{start, take, close, «open», next, Answer, done, closed, handed, at_end, refused, History, noted}

-- what there is of the burst of the last start that was not refused: nothing, if there was no such start; an open burst; or a
-- closed one, with its read-outs in the order in which they were opened
pub data Stage : Type 0 where
  unstarted : Stage
  open_burst : Numbers → Stage
  closed_burst : ClosedNumbers → List ReadOut → Stage

-- the burst and its two buffers
pub record World : Type 0 where
  pub cells : List ℕ
  pub marks : List ℕ
  pub stage : Stage

-- such a world
abbrev pub world : (cells marks : List ℕ) → Stage → World
world cells marks stage = record { cells = cells; marks = marks; stage = stage }

-- A run sees the numbers of a burst, and nothing else of it: in place of a burst its calls answer with them.
abbrev pub StartResult : Type 0
StartResult = Result Numbers Refusal

abbrev pub TakeResult : Type 0
TakeResult = Result (Unit {0}) Refusal

abbrev pub CloseResult : Type 0
CloseResult = Result ClosedNumbers (Refusal × Numbers)

abbrev pub OpenResult : Type 0
OpenResult = Result ReadOut Refusal

-- what the contracts of the calls say, of their numbers
abbrev pub StartSays : (sizes : ℕ → Option ℕ) → (m code : ℕ) → (cells marks marks_after : List ℕ) → StartResult → Type 0
StartSays sizes m code cells marks marks_after result =
    StartAnswers sizes m code cells marks marks_after (λ b. b) result × StartStays marks marks_after result

abbrev pub TakeSays : (m : ℕ) → (section : List ℕ) → (arrival : ℕ) → (before : Numbers) → (cells marks : List ℕ)
    → (after : Numbers) → (cells_after marks_after : List ℕ) → TakeResult → Type 0
TakeSays m section arrival before cells marks after cells_after marks_after result =
    TakeAnswers m section arrival before cells marks after cells_after marks_after result
    × TakeStays before after cells marks cells_after marks_after result

abbrev pub CloseSays : (m : ℕ) → (codeword : List ℕ → Type 0) → (before : Numbers) → (cells marks scratch names : List ℕ)
    → (cells_after marks_after scratch_after names_after : List ℕ) → CloseResult → Type 0
CloseSays m codeword before cells marks scratch names cells_after marks_after scratch_after names_after result =
    CloseAnswers m codeword before cells marks scratch names cells_after marks_after scratch_after names_after (λ b. b) (reason result)
    × CloseStays cells marks scratch names cells_after marks_after scratch_after names_after result
    × GivesBack before result

abbrev pub OpenSays : (m : ℕ) → (burst : ClosedNumbers) → (cells marks : List ℕ) → OpenResult → Type 0
OpenSays m burst cells marks result = OpenAnswers m burst cells marks (λ r. r) result

-- what is noted of the answer of next
abbrev pub answer_of_next : Option Placed → Answer
answer_of_next (Some datagram) = handed datagram
answer_of_next None = at_end

-- The calls h, the latest first, with their answers, lead to this world: for m check columns, a set of codewords, and a map from
-- size codes to rows. All bursts of a run are of that one row code. Nothing but the calls changes the burst and its buffers.
pub data Run (m : ℕ) (codeword : List ℕ → Type 0) (sizes : ℕ → Option ℕ) : History → World → Type 0 where
  -- before any call there are two buffers, whatever they hold
  new : (cells marks : List ℕ) → Run m codeword sizes [] (world cells marks unstarted)
  -- A start that is not refused may come at any time, with any two buffers: they are the burst's own from then on. What an earlier
  -- start gave is gone.
  starts : (h : History) (w : World) (code : ℕ) (cells marks marks_after : List ℕ) (burst : Numbers)
      → Run m codeword sizes h w
      → StartSays sizes m code cells marks marks_after (Ok burst)
      → Run m codeword sizes (noted (start code (length cells) (length marks)) done ∷ h) (world cells marks_after (open_burst burst))
  -- a refused start, with the burst's own buffers
  start_refused : (h : History) (code : ℕ) (cells marks marks_after : List ℕ) (stage : Stage) (e : Refusal)
      → Run m codeword sizes h (world cells marks stage)
      → StartSays sizes m code cells marks marks_after (Err e)
      → Run m codeword sizes (noted (start code (length cells) (length marks)) (refused e) ∷ h) (world cells marks_after stage)
  -- and with others, one or both: what it is lent stays, and the burst has nothing to do with it
  start_refused_elsewhere : (h : History) (w : World) (code : ℕ) (cells marks marks_after : List ℕ) (e : Refusal)
      → Run m codeword sizes h w
      → StartSays sizes m code cells marks marks_after (Err e)
      → Run m codeword sizes (noted (start code (length cells) (length marks)) (refused e) ∷ h) w
  -- take, on an open burst with its own buffers
  takes : (h : History) (section : List ℕ) (arrival : ℕ) (burst after : Numbers) (cells marks cells_after marks_after : List ℕ)
      → Run m codeword sizes h (world cells marks (open_burst burst))
      → TakeSays m section arrival burst cells marks after cells_after marks_after (Ok tt)
      → Run m codeword sizes (noted (take section arrival (length cells) (length marks)) done ∷ h) (world cells_after marks_after (open_burst after))
  take_refused : (h : History) (section : List ℕ) (arrival : ℕ) (burst after : Numbers) (cells marks cells_after marks_after : List ℕ) (e : Refusal)
      → Run m codeword sizes h (world cells marks (open_burst burst))
      → TakeSays m section arrival burst cells marks after cells_after marks_after (Err e)
      → Run m codeword sizes (noted (take section arrival (length cells) (length marks)) (refused e) ∷ h) (world cells_after marks_after (open_burst after))
  -- and with other buffers, one or both, where 2 refuses their sizes: what it is lent stays
  take_refused_elsewhere : (h : History) (section : List ℕ) (arrival : ℕ) (burst after : Numbers) (cells marks others other_marks others_after other_marks_after : List ℕ) (e : Refusal)
      → Run m codeword sizes h (world cells marks (open_burst burst))
      → buffers_rule m burst.rows (length others) (length other_marks) ≡ Some FrameBuffers
      → TakeSays m section arrival burst others other_marks after others_after other_marks_after (Err e)
      → Run m codeword sizes (noted (take section arrival (length others) (length other_marks)) (refused e) ∷ h) (world cells marks (open_burst after))
  -- close ends an open burst, or gives it back
  closes : (h : History) (burst : Numbers) (cells marks scratch names cells_after marks_after scratch_after names_after : List ℕ) (after : ClosedNumbers)
      → Run m codeword sizes h (world cells marks (open_burst burst))
      → CloseSays m codeword burst cells marks scratch names cells_after marks_after scratch_after names_after (Ok after)
      → Run m codeword sizes (noted (close (length cells) (length marks) (length scratch) (length names)) (closed names_after) ∷ h)
      (world cells_after marks_after (closed_burst after []))
  close_refused : (h : History) (burst back : Numbers) (cells marks scratch names cells_after marks_after scratch_after names_after : List ℕ) (e : Refusal)
      → Run m codeword sizes h (world cells marks (open_burst burst))
      → CloseSays m codeword burst cells marks scratch names cells_after marks_after scratch_after names_after (Err (e, back))
      → Run m codeword sizes (noted (close (length cells) (length marks) (length scratch) (length names)) (refused e) ∷ h)
      (world cells_after marks_after (open_burst back))
  -- and with other buffers, one or both, where 2 refuses their sizes: what it is lent stays
  close_refused_elsewhere : (h : History) (burst back : Numbers) (cells marks : List ℕ)
      (others other_marks scratch names others_after other_marks_after scratch_after names_after : List ℕ) (e : Refusal)
      → Run m codeword sizes h (world cells marks (open_burst burst))
      → buffers_rule m burst.rows (length others) (length other_marks) ≡ Some FrameBuffers
      → CloseSays m codeword burst others other_marks scratch names others_after other_marks_after scratch_after names_after (Err (e, back))
      → Run m codeword sizes (noted (close (length others) (length other_marks) (length scratch) (length names)) (refused e) ∷ h)
      (world cells marks (open_burst back))
  -- open, on a closed burst with its own buffers, gives one more read-out; the buffers are lent for reading
  opens : (h : History) (burst : ClosedNumbers) (read_outs : List ReadOut) (read_out : ReadOut) (cells marks : List ℕ)
      → Run m codeword sizes h (world cells marks (closed_burst burst read_outs))
      → OpenSays m burst cells marks (Ok read_out)
      → Run m codeword sizes (noted («open» (length cells) (length marks)) done ∷ h) (world cells marks (closed_burst burst (read_outs ++ (read_out ∷ []))))
  -- a refused open, with any buffers: only 2 refuses one
  open_refused : (h : History) (burst : ClosedNumbers) (read_outs : List ReadOut) (cells marks others other_marks : List ℕ) (e : Refusal)
      → Run m codeword sizes h (world cells marks (closed_burst burst read_outs))
      → OpenSays m burst others other_marks (Err e)
      → Run m codeword sizes (noted («open» (length others) (length other_marks)) (refused e) ∷ h) (world cells marks (closed_burst burst read_outs))
  -- next, on any of the read-outs
  nexts : (h : History) (burst : ClosedNumbers) (front back : List ReadOut) (before after : ReadOut) (cells marks : List ℕ) (answer : Option Placed)
      → Run m codeword sizes h (world cells marks (closed_burst burst (front ++ (before ∷ back))))
      → NextAnswers before after answer
      → Run m codeword sizes (noted (next (length front)) (answer_of_next answer) ∷ h) (world cells marks (closed_burst burst (front ++ (after ∷ back))))
