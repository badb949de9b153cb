-- A table that agrees with a lawful frame still agrees with it once a section of that frame is entered.
use Rattle.std.proofs.Common.{◌≡◌, ℕ, ◌+◌, ◌-◌, ◌<◌, ◌≤◌, true, List, Option, Some, None, refl, sym, ap, ◌∙◌, arith, inl, inr}
use Rattle.std.proofs.lemmas.Bool.{and_parts, or_cases, cond_both, leb-true, ltb-true}
use Rattle.std.proofs.lemmas.Option.{same_Some}
use Rattle.octets.specs.Octets.{byte}
use Rattle.geometry.specs.Cells.{table_size}
use Rattle.geometry.specs.Ends.{EndsIn}
use Rattle.frame.specs.Fields.{Fields}
use Rattle.frame.specs.Frames.{Frame, Lawful, end_of}
use Rattle.table.specs.Tables.{Table}
use Rattle.table.specs.Telling.{first_cell, carries, told_end, told_padding, padded_from, from_on, pads, told_now}
use Rattle.table.specs.Taking.{entered_at, Entered}
use Rattle.table.specs.Laws.{Agrees}
use Rattle.table.proofs.Right.{inside, Right}
use Rattle.table.proofs.Admitted.{padded_above}

-- what is told now, or was told before
told_right : (P : ℕ → Type 0) (now before : Option ℕ) → ((x : ℕ) → now ≡ Some x → P x) → ((x : ℕ) → before ≡ Some x → P x)
    → (x : ℕ) → told_now now before ≡ Some x → P x
told_right P (Some y) before right_now right_before x is = right_now x is
told_right P None before right_now right_before x is = right_before x is

-- the cells that a section makes padding are from E on
padded_cells : (R end i : ℕ) (from : Option ℕ) → ((x : ℕ) → from ≡ Some x → end ≤ x) → from_on R from i ≡ true → (end ≤ i) × (i < table_size R)
padded_cells R end i (Some x) above on =
    let parts = and_parts _ _ on in
    let from_x : x ≤ i = leb-true x i parts.0 in
    (omega (arith, above x refl, from_x), ltb-true i (table_size R) parts.1)
padded_cells R end i None above on = cc

-- a byte that is known of a cell is the frame's
abbrev ByteRight : Frame → (i : ℕ) → Option ℕ → Type 0
ByteRight frame i known = (b : ℕ) → known ≡ Some b → byte frame.cells i ≡ b

entered_right : (m : ℕ) (codeword : List ℕ → Type 0) (frame : Frame) (t : Table) (g : Fields) → Lawful m codeword t.rows frame → Agrees frame t → Right frame t.rows g
    → (i : ℕ) → ByteRight frame i (entered_at t g i)
entered_right m codeword frame t g lawful agrees right i =
    let first = first_cell t.rows g in
    cond_both (pads t.rows g i) _ _ (ByteRight frame i)
    (λ padded b is.
    let there = padded_cells t.rows (end_of frame) i (padded_from t.rows g) (padded_above t.rows (end_of frame) (told_end g) (told_padding g) right.end right.padding) padded in
    lawful.padding i there.0 there.1 ∙ same_Some 0 b is)
    (λ _. cond_both (carries t.rows g i) _ _ (ByteRight frame i)
    (λ carried b is.
    let within = inside t.rows g i carried in
    let back : i ≡ first + (i - first) = omega (arith, within.0) in
    ap (λ j. byte frame.cells j) back ∙ right.bytes (i - first) (omega (arith, within.0, within.1)) ∙ same_Some _ b is)
    (λ _. agrees.bytes i))

pub still_agrees : (m : ℕ) (codeword : List ℕ → Type 0) (frame : Frame) (t : Table) (g : Fields) (after : Table) → Lawful m codeword t.rows frame → Agrees frame t → Right frame t.rows g
    → Entered t g after → Agrees frame after
still_agrees m codeword frame t g after lawful agrees right entered = record {
  bytes = λ i b known. entered_right m codeword frame t g lawful agrees right i b (sym (entered.at i) ∙ known);
  received = λ i in_table received.
      let below : i < table_size t.rows = rw (← entered.rows) in_table in
      elim (or_cases _ _ (sym (entered.received i) ∙ received)) [
        | inl carried ↦ right.carried i below carried
        | inr before ↦ agrees.received i below before
      ];
  end = λ e told. told_right (λ x. x ≡ end_of frame) (told_end g) t.end right.end agrees.end e (sym entered.end ∙ told);
  padding = λ p told.
      rw entered.rows (told_right (λ x. EndsIn t.rows x (end_of frame)) (told_padding g) t.padding right.padding agrees.padding p (sym entered.padding ∙ told));
}
