-- A row of the cells that is mended, and put back where it is filled.
use Rattle.std.proofs.Common.{◌≡◌, ◌≢◌, ℕ, ◌+◌, ◌*◌, ◌<◌, ◌≤◌, Bool, List, length, refl, sym, ap, subst, ◌∙◌, arith}
use Rattle.std.proofs.Math.Nat.{mul-le-mul_right}
use Rattle.std.proofs.lemmas.Nat.{mod-mul-add}
use Rattle.std.proofs.lemmas.List.FromFn.{fill_by_all}
use Rattle.octets.specs.Octets.{byte}
use Rattle.geometry.specs.Cells.{width, frame_size, cell, row_bytes}
use Rattle.frame_row.specs.Rows.{PutBack}
use Rattle.rowcode.specs.Answers.{Mends}
use Rattle.rowcode.specs.declared.Mended.{Mended}
use Rattle.rowcode.specs.declared.Mended.TheVariants.{Filled, Torn, Open}
use Rattle.closing.specs.Rows.{OthersStay, BytesMended, RowMended}

-- a row's cells lie inside the frame
pub cell_inside : (R r c n : ℕ) → r < R → c < n → cell R r c < n * R
cell_inside R r c n row column =
    let next : c + 1 ≤ n = omega arith in
    omega (arith, mul-le-mul_right R next)

-- bytes that were put into a row are that row
put_row : (m R r : ℕ) (bytes before after : List ℕ) → r < R → length before ≡ frame_size m R → length bytes ≡ width m → PutBack R r bytes before after
    → bytes ≡ row_bytes R after r (width m)
put_row m R r bytes before after row size wide put =
    fill_by_all (λ c. byte after (cell R r c)) bytes (width m) 0 wide
    (λ c h. sym (put.here c (omega arith) (rw size (cell_inside R r c (width m) row h))))

-- and all other rows stay
pub put_others : (R r : ℕ) (bytes before after : List ℕ) → r < R → PutBack R r bytes before after → OthersStay R r before after
put_others R r bytes before after row put = λ i other. put.others i (λ c h is. other (rw is (mod-mul-add c R r row)))

-- a row that was taken out, mended and put back
pub put_mended : (m n : ℕ) (codeword : List ℕ → Type 0) (R r : ℕ) (known : List Bool) (row bytes before after : List ℕ) (answer : Mended)
    → r < R → length before ≡ frame_size m R → n ≡ width m → row ≡ row_bytes R before r n → length bytes ≡ n
    → BytesMended codeword known row bytes answer → PutBack R r bytes before after
    → RowMended m codeword R r known before after answer
unfolding RowMended
put_mended m n codeword R r known row bytes before after answer inside size wide out sized mended put =
    let back = put_row m R r bytes before after inside size (sized ∙ wide) put in
    let taken : row ≡ row_bytes R before r (width m) = out ∙ ap (λ k. row_bytes R before r k) wide in (
      subst (λ (v : List ℕ). Mends codeword known v (row_bytes R after r (width m)) answer) taken (subst (λ (v : List ℕ). Mends codeword known row v answer) back mended.mends),
      put_others R r bytes before after inside put,
    )

-- where mend does not fill a row, its answer is right for the row as it was
kept_bytes : (codeword : List ℕ → Type 0) (known : List Bool) (row bytes : List ℕ) (answer : Mended) → answer ≢ Filled → Mends codeword known row bytes answer → Mends codeword known row row answer
kept_bytes codeword known row bytes Filled not mends = absurd (not refl)
kept_bytes codeword known row bytes Torn not mends = (mends.0, refl)
kept_bytes codeword known row bytes Open not mends = (mends.0, refl)

-- so a torn or an open row is not put back
pub kept_mended : (m n : ℕ) (codeword : List ℕ → Type 0) (R r : ℕ) (known : List Bool) (row bytes before : List ℕ) (answer : Mended)
    → answer ≢ Filled → n ≡ width m → row ≡ row_bytes R before r n → BytesMended codeword known row bytes answer
    → RowMended m codeword R r known before before answer
unfolding RowMended
kept_mended m n codeword R r known row bytes before answer not wide out mended =
    let taken : row ≡ row_bytes R before r (width m) = out ∙ ap (λ k. row_bytes R before r k) wide in
    (subst (λ (v : List ℕ). Mends codeword known v v answer) taken (kept_bytes codeword known row bytes answer not mended.mends), λ i other. refl)
