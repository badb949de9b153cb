-- Each call is a step of runs, with the very values that it was given, answered and left. So what a program does by these calls with
-- a burst, its buffers and its read-outs is a run, and what is promised of runs holds of it.
use Rattle.std.specs.Prelude.{◌≡◌, ℕ, List, [], ◌∷◌, ◌++◌, length, Option, Some, Result, Ok, Err, IfErr}
use Rattle.geometry.specs.Sizes.{buffers_rule}
use Rattle.refusal.specs.declared.Refusal.{Refusal}
use Rattle.refusal.specs.declared.Refusal.TheVariants.{FrameBuffers}
use Rattle.table.specs.Bursts.{Numbers, ClosedNumbers}
use Rattle.reading.specs.Reading.{ReadOut, Placed}
use Rattle.ledger.specs.Calls.{start, take, close, «open», next, Answer, done, closed, refused, History, noted}
use Rattle.ledger.specs.Runs.{Stage, open_burst, closed_burst, World, world, answer_of_next, Run}

-- start: whatever came before, where it is not refused; where it is, on the burst's own buffers
abbrev pub StartSteps : {T : Type 0} → (m : ℕ) → (codeword : List ℕ → Type 0) → (sizes : ℕ → Option ℕ) → (code : ℕ) → (cells marks marks_after : List ℕ)
    → (numbers : T → Numbers) → Result T Refusal → Type 0
StartSteps m codeword sizes code cells marks marks_after numbers (Ok burst) =
    (h : History) (w : World) → Run m codeword sizes h w
    → Run m codeword sizes (noted (start code (length cells) (length marks)) done ∷ h) (world cells marks_after (open_burst (numbers burst)))
StartSteps m codeword sizes code cells marks marks_after numbers (Err e) =
    (h : History) (stage : Stage) → Run m codeword sizes h (world cells marks stage)
    → Run m codeword sizes (noted (start code (length cells) (length marks)) (refused e) ∷ h) (world cells marks_after stage)

-- the answer of start, take or open as it is noted
abbrev pub answer_of : {T : Type 0} → Result T Refusal → Answer
answer_of (Ok x) = done
answer_of (Err e) = refused e

-- take
abbrev pub TakeSteps : {T : Type 0} → (m : ℕ) → (codeword : List ℕ → Type 0) → (section : List ℕ) → (arrival : ℕ) → (before : Numbers) → (cells marks : List ℕ)
    → (after : Numbers) → (cells_after marks_after : List ℕ) → Result T Refusal → Type 0
TakeSteps m codeword section arrival before cells marks after cells_after marks_after result =
    (sizes : ℕ → Option ℕ) (h : History) → Run m codeword sizes h (world cells marks (open_burst before))
    → Run m codeword sizes (noted (take section arrival (length cells) (length marks)) (answer_of result) ∷ h) (world cells_after marks_after (open_burst after))

-- close; `numbers` are those of the closed burst that it gives, `back` those of the burst that comes back
abbrev pub CloseSteps : {T B : Type 0} → (m : ℕ) → (codeword : List ℕ → Type 0) → (before : Numbers) → (cells marks scratch names cells_after marks_after names_after : List ℕ)
    → (numbers : T → ClosedNumbers) → (back : B → Numbers) → Result T (Refusal × B) → Type 0
CloseSteps m codeword before cells marks scratch names cells_after marks_after names_after numbers back (Ok x) =
    (sizes : ℕ → Option ℕ) (h : History) → Run m codeword sizes h (world cells marks (open_burst before))
    → Run m codeword sizes (noted (close (length cells) (length marks) (length scratch) (length names)) (closed names_after) ∷ h)
    (world cells_after marks_after (closed_burst (numbers x) []))
CloseSteps m codeword before cells marks scratch names cells_after marks_after names_after numbers back (Err e) =
    (sizes : ℕ → Option ℕ) (h : History) → Run m codeword sizes h (world cells marks (open_burst before))
    → Run m codeword sizes (noted (close (length cells) (length marks) (length scratch) (length names)) (refused e.0) ∷ h)
    (world cells_after marks_after (open_burst (back e.1)))

-- With other buffers than the burst's own, one or both: a refused start, and a take or close that 2 refuses. What it is lent stays, and
-- so do the burst's own.
abbrev pub StartElsewhere : {T : Type 0} → (m : ℕ) → (codeword : List ℕ → Type 0) → (sizes : ℕ → Option ℕ) → (code : ℕ) → (cells marks : List ℕ) → Result T Refusal → Type 0
StartElsewhere m codeword sizes code cells marks result = IfErr result (λ e.
    (h : History) (w : World) → Run m codeword sizes h w
    → Run m codeword sizes (noted (start code (length cells) (length marks)) (refused e) ∷ h) w)

abbrev pub TakeElsewhere : {T : Type 0} → (m : ℕ) → (codeword : List ℕ → Type 0) → (section : List ℕ) → (arrival : ℕ) → (before after : Numbers) → (cells marks : List ℕ) → Result T Refusal → Type 0
TakeElsewhere m codeword section arrival before after cells marks result = IfErr result (λ e.
    buffers_rule m before.rows (length cells) (length marks) ≡ Some FrameBuffers
    → (sizes : ℕ → Option ℕ) (h : History) (own own_marks : List ℕ) → Run m codeword sizes h (world own own_marks (open_burst before))
    → Run m codeword sizes (noted (take section arrival (length cells) (length marks)) (refused e) ∷ h) (world own own_marks (open_burst after)))

abbrev pub CloseElsewhere : {T B : Type 0} → (m : ℕ) → (codeword : List ℕ → Type 0) → (before : Numbers) → (cells marks scratch names : List ℕ)
    → (back : B → Numbers) → Result T (Refusal × B) → Type 0
CloseElsewhere m codeword before cells marks scratch names back result = IfErr result (λ e.
    buffers_rule m before.rows (length cells) (length marks) ≡ Some FrameBuffers
    → (sizes : ℕ → Option ℕ) (h : History) (own own_marks : List ℕ) → Run m codeword sizes h (world own own_marks (open_burst before))
    → Run m codeword sizes (noted (close (length cells) (length marks) (length scratch) (length names)) (refused e.0) ∷ h) (world own own_marks (open_burst (back e.1))))

-- open, with any buffers where it is refused; `read_out` is the one that it gives, as runs see it
abbrev pub OpenSteps : {T : Type 0} → (m : ℕ) → (codeword : List ℕ → Type 0) → (burst : ClosedNumbers) → (cells marks : List ℕ)
    → (read_out : T → ReadOut) → Result T Refusal → Type 0
OpenSteps m codeword burst cells marks read_out (Ok x) =
    (sizes : ℕ → Option ℕ) (h : History) (read_outs : List ReadOut) → Run m codeword sizes h (world cells marks (closed_burst burst read_outs))
    → Run m codeword sizes (noted («open» (length cells) (length marks)) done ∷ h) (world cells marks (closed_burst burst (read_outs ++ (read_out x ∷ []))))
OpenSteps m codeword burst cells marks read_out (Err e) =
    (sizes : ℕ → Option ℕ) (h : History) (own own_marks : List ℕ) (read_outs : List ReadOut) → Run m codeword sizes h (world own own_marks (closed_burst burst read_outs))
    → Run m codeword sizes (noted («open» (length cells) (length marks)) (refused e) ∷ h) (world own own_marks (closed_burst burst read_outs))

-- next, on any of the read-outs
abbrev pub NextSteps : (m : ℕ) → (codeword : List ℕ → Type 0) → (before after : ReadOut) → (answer : Option Placed) → Type 0
NextSteps m codeword before after answer =
    (sizes : ℕ → Option ℕ) (h : History) (burst : ClosedNumbers) (front back : List ReadOut) (cells marks : List ℕ)
    → Run m codeword sizes h (world cells marks (closed_burst burst (front ++ (before ∷ back))))
    → Run m codeword sizes (noted (next (length front)) (answer_of_next answer) ∷ h) (world cells marks (closed_burst burst (front ++ (after ∷ back))))
