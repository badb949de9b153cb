-- All rows, closed one after another: one row more leaves the rows before it closed.
use Rattle.std.proofs.Common.{◌≡◌, ℕ, ◌+◌, ◌<◌, ◌≤◌, List, length, slice_set, replicate, refl, sym, ap, ◌∙◌, arith, inl, inr}
use Rattle.std.proofs.lemmas.Bool.{cases_eq}
use Rattle.std.proofs.lemmas.List.{get_or-set_same, get_or-set_other}
use Rattle.std.proofs.lemmas.Nat.{mod-mul-add}
use Rattle.octets.specs.Octets.{byte}
use Rattle.geometry.specs.Cells.{cell}
use Rattle.rowcode.specs.Answers.{number_of}
use Rattle.rowcode.specs.declared.Mended.{Mended}
use Rattle.rowcode.specs.declared.Mended.TheVariants.{Filled, Torn, Open}
use Rattle.table.specs.Closing.{RowStays, RowClosed, filled_mark, Closed}
use Rattle.closing.specs.Rows.{OthersStay, OneClosed}
use Rattle.closing.proofs.AgreeingWords.{stays_alike, none_alike, only_alike, two_alike}

-- the first n rows are closed, and named by their answers; the rows from there on stay
record FirstClosed (m : ℕ) (codeword : List ℕ → Type 0) (R n : ℕ) (cells marks cells_after marks_after names : List ℕ) : Type 0 where
  below : (r : ℕ) → r < n → (answer : Mended) × ((byte names r ≡ number_of answer) × RowClosed m codeword R cells marks cells_after marks_after r answer)
  above_cells : (r : ℕ) → n ≤ r → r < R → RowStays m R cells cells_after r
  above_marks : (r : ℕ) → n ≤ r → r < R → RowStays m R marks marks_after r

-- opaque, so that it is one fact to a tactic
pub ClosedTo : (m : ℕ) → (codeword : List ℕ → Type 0) → (R n : ℕ) → (cells marks cells_after marks_after names : List ℕ) → Type 0
ClosedTo m codeword R n cells marks cells_after marks_after names = FirstClosed m codeword R n cells marks cells_after marks_after names

-- another row stays
row_stays : (m R n r : ℕ) (before after : List ℕ) → r < R → (r ≡ n → ⊥) → OthersStay R n before after → RowStays m R before after r
row_stays m R n r before after inside other stays = λ c h. stays (cell R r c) (λ is. other (sym (mod-mul-add c R r inside) ∙ is))

-- a row that was closed is so too in buffers that hold the same of it, before and after
closed_alike : (m : ℕ) (codeword : List ℕ → Type 0) (R r : ℕ) (cells marks cells_then marks_then cells_now marks_now cells_after marks_after : List ℕ) (answer : Mended)
    → RowStays m R cells cells_then r → RowStays m R marks marks_then r → RowStays m R cells_now cells_after r → RowStays m R marks_now marks_after r
    → RowClosed m codeword R cells_then marks_then cells_now marks_now r answer
    → RowClosed m codeword R cells marks cells_after marks_after r answer
closed_alike m codeword R r cells marks cells_then marks_then cells_now marks_now cells_after marks_after Filled ct mt cn mn (word, (only, held, marked)) =
    (word, (only_alike _ _ word (stays_alike m codeword R r cells marks cells_then marks_then ct mt) only, (λ c h. cn c h ∙ held c h), (λ c h. mn c h ∙ marked c h ∙ ap filled_mark (mt c h))))
closed_alike m codeword R r cells marks cells_then marks_then cells_now marks_now cells_after marks_after Torn ct mt cn mn (none, stays, marked) =
    (none_alike _ _ (stays_alike m codeword R r cells marks cells_then marks_then ct mt) none, (λ c h. cn c h ∙ stays c h ∙ ct c h), (λ c h. mn c h ∙ marked c h))
closed_alike m codeword R r cells marks cells_then marks_then cells_now marks_now cells_after marks_after Open ct mt cn mn (two, stays, marked) =
    (two_alike _ _ (stays_alike m codeword R r cells marks cells_then marks_then ct mt) two, (λ c h. cn c h ∙ stays c h ∙ ct c h), (λ c h. mn c h ∙ marked c h ∙ mt c h))

-- no row is closed yet
pub closed_none : (m : ℕ) (codeword : List ℕ → Type 0) (R : ℕ) (cells marks names : List ℕ) → ClosedTo m codeword R 0 cells marks cells marks names
unfolding ClosedTo
closed_none m codeword R cells marks names = record {
  below = λ r h. absurd (omega arith);
  above_cells = λ r above h c k. refl;
  above_marks = λ r above h c k. refl;
}

-- one row more, and its name
pub closed_more : (m : ℕ) (codeword : List ℕ → Type 0) (R n : ℕ) (cells marks cells_now marks_now names cells_after marks_after : List ℕ) (answer : Mended)
    → n < R → n < length names
    → OneClosed m codeword R n cells_now marks_now cells_after marks_after answer
    → ClosedTo m codeword R n cells marks cells_now marks_now names
    → ClosedTo m codeword R (n + 1) cells marks cells_after marks_after (slice_set names n (number_of answer))
unfolding ClosedTo OneClosed
closed_more m codeword R n cells marks cells_now marks_now names cells_after marks_after answer inside named one to =
    let cells_kept : (r : ℕ) → r < R → (r ≡ n → ⊥) → RowStays m R cells_now cells_after r = λ r h other. row_stays m R n r cells_now cells_after h other one.1 in
    let marks_kept : (r : ℕ) → r < R → (r ≡ n → ⊥) → RowStays m R marks_now marks_after r = λ r h other. row_stays m R n r marks_now marks_after h other one.2 in
    record {
      below = λ r h. elim (cases_eq r n) [
        | inl here ↦ rw here (
          answer,
          (
            get_or-set_same names n (number_of answer) 0 named,
            closed_alike m codeword R n cells marks cells_now marks_now cells_after marks_after cells_after marks_after answer
                (to.above_cells n (omega arith) inside) (to.above_marks n (omega arith) inside) (λ c k. refl) (λ c k. refl) one.0,
          ),
        )
        | inr other ↦
            let before = to.below r (omega (arith, other)) in (
              before.0,
              (
                get_or-set_other names n r (number_of answer) 0 other ∙ before.1.0,
                closed_alike m codeword R r cells marks cells marks cells_now marks_now cells_after marks_after before.0
                    (λ c k. refl) (λ c k. refl) (cells_kept r (omega arith) other) (marks_kept r (omega arith) other) before.1.1,
              ),
            )
      ];
      above_cells = λ r above h c k. cells_kept r h (omega arith) c k ∙ to.above_cells r (omega arith) h c k;
      above_marks = λ r above h c k. marks_kept r h (omega arith) c k ∙ to.above_marks r (omega arith) h c k;
    }

-- all rows
pub closed_all : (m : ℕ) (codeword : List ℕ → Type 0) (R n : ℕ) (cells marks cells_after marks_after scratch names : List ℕ)
    → R ≤ n → length cells_after ≡ length cells → length marks_after ≡ length marks → length names ≡ R → scratch ≡ replicate 255 0
    → ClosedTo m codeword R n cells marks cells_after marks_after names
    → Closed m codeword R cells marks cells_after marks_after scratch names
unfolding ClosedTo
closed_all m codeword R n cells marks cells_after marks_after scratch names all cells_size marks_size names_size zero to = record {
  cells_size = cells_size;
  marks_size = marks_size;
  names_size = names_size;
  each_row = λ r h. to.below r (omega arith);
  scratch_is_0 = zero;
}
