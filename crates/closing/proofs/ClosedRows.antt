-- A row that is mended by its marks, marked by the answer and put back is closed.
use Rattle.std.proofs.Common.{◌≡◌, ℕ, ◌<◌, Bool, List, length, sym, ap, subst, ◌∙◌, arith}
use Rattle.octets.specs.Octets.{byte}
use Rattle.geometry.specs.Cells.{width, frame_size, cell, row_bytes}
use Rattle.frame_row.specs.Rows.{PutBack}
use Rattle.rowcode.specs.Answers.{Mends}
use Rattle.rowcode.specs.declared.Mended.{Mended}
use Rattle.rowcode.specs.declared.Mended.TheVariants.{Filled, Torn, Open}
use Rattle.table.specs.Closing.{RowHolds, RowStays, RowClosed}
use Rattle.closing.specs.Rows.{KnownBy, RowMended, MarkedRowMended, EachMarked, mark_by, OneClosed}
use Rattle.closing.proofs.AgreeingWords.{row_byte, row_wide, row_alike, none_alike, only_alike, two_alike}
use Rattle.closing.proofs.MendedRows.{cell_inside, put_others}

-- a row that is the same as a list of bytes stays
row_kept : (m R r : ℕ) (before after : List ℕ) → row_bytes R after r (width m) ≡ row_bytes R before r (width m) → RowStays m R before after r
row_kept m R r before after same = λ c h.
    sym (row_byte R after r (width m) c h) ∙ ap (λ row. byte row c) same ∙ row_byte R before r (width m) c h

-- marks that became what their answer says, put back
marks_put : (m R r : ℕ) (answer : Mended) (row marks after : List ℕ) → r < R → length marks ≡ frame_size m R
    → EachMarked (mark_by answer) (row_bytes R marks r (width m)) row → PutBack R r row marks after
    → RowHolds m R after r (λ c. mark_by answer (byte marks (cell R r c)))
marks_put m R r answer row marks after inside size marked put = λ c h.
    let wide : length (row_bytes R marks r (width m)) ≡ width m = row_wide R marks r (width m) in
    put.here c (omega (arith, marked.size, wide)) (rw size (cell_inside R r c (width m) inside h))
    ∙ marked.each c (rw wide h)
    ∙ ap (mark_by answer) (row_byte R marks r (width m) c h)

-- what each answer of mend says of the row's bytes is what it says of the row
by_answer : (m : ℕ) (codeword : List ℕ → Type 0) (R r : ℕ) (cells marks cells_after marks_after : List ℕ) (known : List Bool) (answer : Mended)
    → KnownBy (row_bytes R marks r (width m)) known
    → Mends codeword known (row_bytes R cells r (width m)) (row_bytes R cells_after r (width m)) answer
    → RowHolds m R marks_after r (λ c. mark_by answer (byte marks (cell R r c)))
    → RowClosed m codeword R cells marks cells_after marks_after r answer
by_answer m codeword R r cells marks cells_after marks_after known Filled by mends held =
    (row_bytes R cells_after r (width m), (only_alike _ _ _ (row_alike m codeword R r cells marks known by) mends, (λ c h. sym (row_byte R cells_after r (width m) c h)), held))
by_answer m codeword R r cells marks cells_after marks_after known Torn by mends held =
    (none_alike _ _ (row_alike m codeword R r cells marks known by) mends.0, row_kept m R r cells cells_after mends.1, held)
by_answer m codeword R r cells marks cells_after marks_after known Open by mends held =
    (two_alike _ _ (row_alike m codeword R r cells marks known by) mends.0, row_kept m R r cells cells_after mends.1, held)

-- a row whose marks were taken out, that was mended by them, marked by the answer, and put back, is closed
pub row_closed : (m n : ℕ) (codeword : List ℕ → Type 0) (R r : ℕ) (cells marks cells_after marks_after row row_after : List ℕ) (answer : Mended)
    → r < R → length marks ≡ frame_size m R → n ≡ width m → row ≡ row_bytes R marks r n
    → MarkedRowMended m codeword R r row cells cells_after answer
    → EachMarked (mark_by answer) row row_after → PutBack R r row_after marks marks_after
    → OneClosed m codeword R r cells marks cells_after marks_after answer
unfolding RowMended OneClosed
row_closed m n codeword R r cells marks cells_after marks_after row row_after answer inside size wide out mended marked put =
    let whole : row ≡ row_bytes R marks r (width m) = out ∙ ap (λ k. row_bytes R marks r k) wide in
    let held = marks_put m R r answer row_after marks marks_after inside size (subst (λ (v : List ℕ). EachMarked (mark_by answer) v row_after) whole marked) put in (
      by_answer m codeword R r cells marks cells_after marks_after mended.known answer (subst (λ (v : List ℕ). KnownBy v mended.known) whole mended.by_marks) mended.mended.0 held,
      mended.mended.1,
      put_others R r row_after marks marks_after inside put,
    )
