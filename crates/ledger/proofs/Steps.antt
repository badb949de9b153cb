-- What the contract of a call says makes it a step of runs.
use Rattle.std.proofs.Common.{ℕ, List, Option, Result, Ok, Err, ap}
use Rattle.refusal.specs.declared.Refusal.{Refusal}
use Rattle.table.specs.Bursts.{Numbers, ClosedNumbers}
use Rattle.table.specs.Calls.{StartAnswers, StartStays, TakeAnswers, TakeStays, CloseAnswers, CloseStays, GivesBack, reason}
use Rattle.reading.specs.Reading.{ReadOut, OpenAnswers}
use Rattle.ledger.specs.Runs.{starts, start_refused, start_refused_elsewhere, takes, take_refused, take_refused_elsewhere, closes, close_refused, close_refused_elsewhere, opens, open_refused}
use Rattle.ledger.specs.Steps.{StartSteps, TakeSteps, CloseSteps, StartElsewhere, TakeElsewhere, CloseElsewhere, OpenSteps}

pub start_steps : {T : Type 0} (m : ℕ) (codeword : List ℕ → Type 0) (sizes : ℕ → Option ℕ) (code : ℕ) (cells marks marks_after : List ℕ) (numbers : T → Numbers) (result : Result T Refusal)
    → StartAnswers sizes m code cells marks marks_after numbers result → StartStays marks marks_after result
    → StartSteps m codeword sizes code cells marks marks_after numbers result
start_steps m codeword sizes code cells marks marks_after numbers (Ok burst) answer stays =
    λ h w run. starts h w code cells marks marks_after (numbers burst) run (answer, tt)
start_steps m codeword sizes code cells marks marks_after numbers (Err e) answer stays =
    λ h stage run. start_refused h code cells marks marks_after stage e run (answer, stays)

pub take_steps : {T B : Type 0} (m : ℕ) (codeword : List ℕ → Type 0) (section : List ℕ) (arrival : ℕ) (numbers : B → Numbers) (before after : B) (cells marks cells_after marks_after : List ℕ) (result : Result T Refusal)
    → TakeAnswers m section arrival (numbers before) cells marks (numbers after) cells_after marks_after result
    → TakeStays before after cells marks cells_after marks_after result
    → TakeSteps m codeword section arrival (numbers before) cells marks (numbers after) cells_after marks_after result
take_steps m codeword section arrival numbers before after cells marks cells_after marks_after (Ok x) answer stays =
    λ sizes h run. takes h section arrival (numbers before) (numbers after) cells marks cells_after marks_after run (answer, tt)
take_steps m codeword section arrival numbers before after cells marks cells_after marks_after (Err e) answer stays =
    λ sizes h run. take_refused h section arrival (numbers before) (numbers after) cells marks cells_after marks_after e run
    (answer, (ap numbers stays.0, stays.1, stays.2))

pub close_steps : {T B : Type 0} (m : ℕ) (codeword : List ℕ → Type 0) (burst : B) (cells marks scratch names cells_after marks_after scratch_after names_after : List ℕ)
    (numbers : T → ClosedNumbers) (back : B → Numbers) (result : Result T (Refusal × B))
    → CloseAnswers m codeword (back burst) cells marks scratch names cells_after marks_after scratch_after names_after numbers (reason result)
    → CloseStays cells marks scratch names cells_after marks_after scratch_after names_after result
    → GivesBack burst result
    → CloseSteps m codeword (back burst) cells marks scratch names cells_after marks_after names_after numbers back result
close_steps m codeword burst cells marks scratch names cells_after marks_after scratch_after names_after numbers back (Ok x) answer stays given =
    λ sizes h run. closes h (back burst) cells marks scratch names cells_after marks_after scratch_after names_after (numbers x) run (answer, tt, tt)
close_steps m codeword burst cells marks scratch names cells_after marks_after scratch_after names_after numbers back (Err e) answer stays given =
    λ sizes h run. close_refused h (back burst) (back e.1) cells marks scratch names cells_after marks_after scratch_after names_after e.0 run
    (answer, stays, ap back given)

pub open_steps : {T : Type 0} (m : ℕ) (codeword : List ℕ → Type 0) (burst : ClosedNumbers) (cells marks : List ℕ) (read_out : T → ReadOut) (result : Result T Refusal)
    → OpenAnswers m burst cells marks read_out result
    → OpenSteps m codeword burst cells marks read_out result
open_steps m codeword burst cells marks read_out (Ok x) answer = λ sizes h read_outs run. opens h burst read_outs (read_out x) cells marks run answer
open_steps m codeword burst cells marks read_out (Err e) answer =
    λ sizes h own own_marks read_outs run. open_refused h burst read_outs own own_marks cells marks e run answer

pub start_elsewhere : {T : Type 0} (m : ℕ) (codeword : List ℕ → Type 0) (sizes : ℕ → Option ℕ) (code : ℕ) (cells marks marks_after : List ℕ) (numbers : T → Numbers) (result : Result T Refusal)
    → StartAnswers sizes m code cells marks marks_after numbers result → StartStays marks marks_after result
    → StartElsewhere m codeword sizes code cells marks result
start_elsewhere m codeword sizes code cells marks marks_after numbers (Ok burst) answer stays = tt
start_elsewhere m codeword sizes code cells marks marks_after numbers (Err e) answer stays =
    λ h w run. start_refused_elsewhere h w code cells marks marks_after e run (answer, stays)

pub take_elsewhere : {T B : Type 0} (m : ℕ) (codeword : List ℕ → Type 0) (section : List ℕ) (arrival : ℕ) (numbers : B → Numbers) (before after : B) (cells marks cells_after marks_after : List ℕ) (result : Result T Refusal)
    → TakeAnswers m section arrival (numbers before) cells marks (numbers after) cells_after marks_after result
    → TakeStays before after cells marks cells_after marks_after result
    → TakeElsewhere m codeword section arrival (numbers before) (numbers after) cells marks result
take_elsewhere m codeword section arrival numbers before after cells marks cells_after marks_after (Ok x) answer stays = tt
take_elsewhere m codeword section arrival numbers before after cells marks cells_after marks_after (Err e) answer stays =
    λ sizes_differ sizes h own own_marks run. take_refused_elsewhere h section arrival (numbers before) (numbers after) own own_marks
    cells marks cells_after marks_after e run sizes_differ (answer, (ap numbers stays.0, stays.1, stays.2))

pub close_elsewhere : {T B : Type 0} (m : ℕ) (codeword : List ℕ → Type 0) (burst : B) (cells marks scratch names cells_after marks_after scratch_after names_after : List ℕ)
    (numbers : T → ClosedNumbers) (back : B → Numbers) (result : Result T (Refusal × B))
    → CloseAnswers m codeword (back burst) cells marks scratch names cells_after marks_after scratch_after names_after numbers (reason result)
    → CloseStays cells marks scratch names cells_after marks_after scratch_after names_after result
    → GivesBack burst result
    → CloseElsewhere m codeword (back burst) cells marks scratch names back result
close_elsewhere m codeword burst cells marks scratch names cells_after marks_after scratch_after names_after numbers back (Ok x) answer stays given = tt
close_elsewhere m codeword burst cells marks scratch names cells_after marks_after scratch_after names_after numbers back (Err e) answer stays given =
    λ sizes_differ sizes h own own_marks run. close_refused_elsewhere h (back burst) (back e.1) own own_marks
    cells marks scratch names cells_after marks_after scratch_after names_after e.0 run sizes_differ (answer, stays, ap back given)
