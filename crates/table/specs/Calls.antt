-- What the contracts of start, take and close say of a call, as far as runs of calls are made of it: what it answers, what it
-- leaves, and that a refusal changes nothing. What close says of its tallies and of the wake order stands in its contract alone.
use Rattle.std.specs.Prelude.{◌≡◌, ℕ, List, length, Option, Result, Ok, Err, IfErr, OnErr}
use Rattle.refusal.specs.declared.Refusal.{Refusal}
use Rattle.refusal.specs.Rules.{Answers}
use Rattle.frame.specs.Fields.{fields_of}
use Rattle.table.specs.Bursts.{Numbers, ClosedNumbers, table_of, closed_numbers}
use Rattle.table.specs.Rules.{start_rules, take_rules}
use Rattle.table.specs.Taking.{Started, Took}
use Rattle.table.specs.Closing.{close_rules, Closed}

-- start, by a map from size codes to rows; `numbers` are those of the burst that it gives
abbrev pub StartAnswers : {T : Type 0} → (sizes : ℕ → Option ℕ) → (m code : ℕ) → (cells marks marks_after : List ℕ) → (numbers : T → Numbers) → Result T Refusal → Type 0
StartAnswers sizes m code cells marks marks_after numbers result =
    Answers (start_rules sizes m code (length cells) (length marks))
    (λ burst. Started sizes code marks marks_after (numbers burst)) result

abbrev pub StartStays : {T : Type 0} → (marks marks_after : List ℕ) → Result T Refusal → Type 0
StartStays marks marks_after result = OnErr result (marks_after ≡ marks)

-- take of a section that came in then, into a burst with these numbers
abbrev pub TakeAnswers : {T : Type 0} → (m : ℕ) → (section : List ℕ) → (arrival : ℕ) → (before : Numbers) → (cells marks : List ℕ)
    → (after : Numbers) → (cells_after marks_after : List ℕ) → Result T Refusal → Type 0
TakeAnswers m section arrival before cells marks after cells_after marks_after result =
    Answers (take_rules m (table_of before cells marks) section (length cells) (length marks))
    (λ _. Took (fields_of section) arrival before cells marks after cells_after marks_after) result

abbrev pub TakeStays : {T B : Type 0} → (before after : B) → (cells marks cells_after marks_after : List ℕ) → Result T Refusal → Type 0
TakeStays before after cells marks cells_after marks_after result =
    OnErr result ((after ≡ before) × (cells_after ≡ cells) × (marks_after ≡ marks))

-- close of a burst with these numbers; `numbers` are those of the closed burst that it gives
abbrev pub CloseAnswers : {T : Type 0} → (m : ℕ) → (codeword : List ℕ → Type 0) → (before : Numbers) → (cells marks scratch names : List ℕ)
    → (cells_after marks_after scratch_after names_after : List ℕ) → (numbers : T → ClosedNumbers) → Result T Refusal → Type 0
CloseAnswers m codeword before cells marks scratch names cells_after marks_after scratch_after names_after numbers result =
    Answers (close_rules m before.rows (length cells) (length marks) (length scratch) (length names))
    (λ x. Closed m codeword before.rows cells marks cells_after marks_after scratch_after names_after × (numbers x ≡ closed_numbers before)) result

abbrev pub CloseStays : {T E : Type 0} → (cells marks scratch names cells_after marks_after scratch_after names_after : List ℕ) → Result T E → Type 0
CloseStays cells marks scratch names cells_after marks_after scratch_after names_after result =
    OnErr result ((cells_after ≡ cells) × (marks_after ≡ marks) × (scratch_after ≡ scratch) × (names_after ≡ names))

-- A refusal of a call that was given its burst for good: the reason, and the burst, which comes back as it was.
abbrev pub reason : {T B : Type 0} → Result T (Refusal × B) → Result T Refusal
reason (Ok x) = Ok x
reason (Err e) = Err e.0

abbrev pub GivesBack : {T B : Type 0} → (burst : B) → Result T (Refusal × B) → Type 0
GivesBack burst result = IfErr result (λ e. e.1 ≡ burst)
