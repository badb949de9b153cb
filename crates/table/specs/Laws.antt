-- What a table that agrees with a lawful frame makes of that frame's sections.
use Rattle.std.specs.Prelude.{◌≡◌, ℕ, ◌<◌, true, List, Some, Result, IfErr, OnOk}
use Rattle.octets.specs.Octets.{byte}
use Rattle.geometry.specs.Cells.{table_size}
use Rattle.geometry.specs.Ends.{EndsIn}
use Rattle.refusal.specs.declared.Refusal.{Refusal}
use Rattle.refusal.specs.Refusals.{number_of}
use Rattle.frame.specs.Frames.{Frame, Lawful, end_of}
use Rattle.frame.specs.Sent.{ComesFrom}
use Rattle.table.specs.Tables.{Table}

-- what is known of the table is what stands in the frame, and what was told of its end is right
pub record Agrees (frame : Frame) (t : Table) : Type 0 where
  pub bytes : (i b : ℕ) → t.at i ≡ Some b → byte frame.cells i ≡ b
  pub received : (i : ℕ) → i < table_size t.rows → t.received i ≡ true → i < end_of frame
  pub end : (e : ℕ) → t.end ≡ Some e → e ≡ end_of frame
  pub padding : (p : ℕ) → t.padding ≡ Some p → EndsIn t.rows p (end_of frame)

-- a section that comes from a lawful frame, taken into a table that agrees with that frame, is not refused under 4 to 13: only 2,
-- by which buffers of another size are refused, is left
abbrev pub TakesItsOwn : {T : Type 0} → (m : ℕ) → (codeword : List ℕ → Type 0) → Table → List ℕ → Result T Refusal → Type 0
TakesItsOwn m codeword t s result =
    (frame : Frame) → Lawful m codeword t.rows frame → Agrees frame t → ComesFrom t.rows m frame s
    → IfErr result (λ e. number_of e ≡ 2)

-- and then the table still agrees with the frame
abbrev pub KeepsAgreeing : {T : Type 0} → (m : ℕ) → (codeword : List ℕ → Type 0) → Table → List ℕ → (after : Table) → Result T Refusal → Type 0
KeepsAgreeing m codeword t s after result =
    (frame : Frame) → Lawful m codeword t.rows frame → Agrees frame t → ComesFrom t.rows m frame s
    → OnOk result (Agrees frame after)

-- a table that nothing is known of agrees with every frame
abbrev pub AgreesWithAll : Table → Type 0
AgreesWithAll t = (frame : Frame) → Agrees frame t
