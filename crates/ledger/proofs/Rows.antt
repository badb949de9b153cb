-- The rows at a close: what the buffers hold of each is what the ledger makes of it, and its name says what the ledger had there.
use Rattle.std.proofs.Common.{◌≡◌, ℕ, zero, suc, ◌*◌, ◌/◌, ◌%◌, ◌<◌, ◌↔◌, ◌==◌, false, cond, List, Option, Some, None, refl, sym, ap, ◌∙◌, subst, arith}
use Rattle.std.proofs.lemmas.Bool.{cond_both}
use Rattle.std.proofs.lemmas.Option.{same_Some}
use Rattle.std.proofs.lemmas.Nat.{div-add-mod', div_below, mod_below}
use Rattle.octets.specs.Octets.{byte}
use Rattle.geometry.specs.Cells.{width, frame_size, cell}
use Rattle.marks.specs.declared.Mark.{Mark}
use Rattle.marks.specs.declared.Mark.TheVariants.{Unknown, Received, Start, Padding, Filled as FilledMark}
use Rattle.marks.specs.Marks.{mark_of, is_known, is_start}
use Rattle.rowcode.specs.Rows.{OnlyIs, TwoAre}
use Rattle.rowcode.specs.Answers.{number_of}
use Rattle.rowcode.specs.declared.Mended.{Mended}
use Rattle.rowcode.specs.declared.Mended.TheVariants.{Filled, Torn, Open}
use Rattle.table.specs.Tables.{Table}
use Rattle.table.specs.Bursts.{known_at, start_at}
use Rattle.table.specs.Rows.{AgreesInRow, OnlyAgrees, OneAgrees, NoneAgrees, SeveralAgree}
use Rattle.table.specs.Closing.{filled_mark, RowClosed}
use Rattle.ledger.specs.Ledgers.{RowKnows, RowSettled}
use Rattle.ledger.specs.Runs.{World}
use Rattle.ledger.specs.Law.{Named}

-- ---- the cells of a frame are those of its rows

some_row : (n R i : ℕ) → i < n * R → 0 < R
some_row n zero i below = absurd (omega arith)
some_row n (suc R) i below = omega arith

-- what holds of each row's cells holds of all
pub by_rows : (m R : ℕ) (P : ℕ → Type 0) → ((r : ℕ) → r < R → (c : ℕ) → c < width m → P (cell R r c)) → (i : ℕ) → i < frame_size m R → P i
by_rows m R P each i below =
    let some = some_row (width m) R i below in
    subst P (div-add-mod' i R) (each (i % R) (mod_below i R some) (i / R) (div_below i R (width m) some below))

-- ---- an answer by its name

-- the answer that has this name
answer_of : ℕ → Mended
answer_of name = cond (name == 1) Filled (cond (name == 2) Torn Open)

answer_of_name : (answer : Mended) → answer_of (number_of answer) ≡ answer
unfolding answer_of
answer_of_name Filled = refl
answer_of_name Torn = refl
answer_of_name Open = refl

-- no two have one name
one_name : (a b : Mended) → number_of a ≡ number_of b → a ≡ b
one_name a b same = sym (answer_of_name a) ∙ ap answer_of same ∙ answer_of_name b

-- ---- row r of a table with R rows

pub not_two : {P : List ℕ → Type 0} {row : List ℕ} → OnlyIs P row → TwoAre P → ⊥
not_two only two = two.differ (only.only two.one two.one_is ∙ sym (only.only two.other two.other_is))

-- a cell of a filled row is known, whatever it was before
filled_known : (mark b : ℕ) → cond (is_known (mark_of (filled_mark mark))) (Some b) None ≡ Some b
filled_known mark b =
    cond_both (is_known (mark_of mark)) mark 4 (λ x. cond (is_known (mark_of x)) (Some b) None ≡ Some b) (λ known. rw known) (λ _. refl)

-- a start is known
start_known : (mark : Mark) → is_known mark ≡ false → is_start mark ≡ false
start_known Unknown unknown = refl
start_known Received unknown = cc
start_known Start unknown = cc
start_known Padding unknown = cc
start_known FilledMark unknown = cc

-- so a cell of a filled row is a start if it was one before
filled_start : (mark : ℕ) → is_start (mark_of (filled_mark mark)) ≡ is_start (mark_of mark)
filled_start mark =
    cond_both (is_known (mark_of mark)) mark 4 (λ x. is_start (mark_of x) ≡ is_start (mark_of mark)) (λ _. refl) (λ unknown. sym (start_known (mark_of mark) unknown))

module _ (m : ℕ) (codeword : List ℕ → Type 0) (R : ℕ) where
  -- what an answer says of the codewords that agree with the row
  abbrev Says : (at : ℕ → Option ℕ) → (r : ℕ) → Mended → Type 0
  Says at r Filled = OneAgrees m codeword R at r
  Says at r Torn = NoneAgrees m codeword R at r
  Says at r Open = SeveralAgree m codeword R at r

  -- only one is right
  one_answer : (at : ℕ → Option ℕ) (r : ℕ) (a b : Mended) → Says at r a → Says at r b → a ≡ b
  one_answer at r Filled Filled p q = refl
  one_answer at r Filled Torn p q = absurd (q p.0 p.1.is)
  one_answer at r Filled Open p q = absurd (not_two p.1 q)
  one_answer at r Torn Filled p q = absurd (p q.0 q.1.is)
  one_answer at r Torn Torn p q = refl
  one_answer at r Torn Open p q = absurd (p q.one q.one_is)
  one_answer at r Open Filled p q = absurd (not_two q.1 p)
  one_answer at r Open Torn p q = absurd (q p.one p.one_is)
  one_answer at r Open Open p q = refl

  -- a name says what its answer does
  named_so : (at : ℕ → Option ℕ) (r name : ℕ) (a b : Mended) → name ≡ number_of a → Says at r a → (name ≡ number_of b) ↔ Says at r b
  named_so at r name a b is says = (
    λ is_b. subst (Says at r) (one_name a b (sym is ∙ is_b)) says,
    λ also. is ∙ ap number_of (one_answer at r a b says also),
  )

  -- the row as close leaves it in the buffers is the row as the ledger closes it
  pub row_closes : (cells marks cells_after marks_after : List ℕ) (r : ℕ) (answer : Mended) → RowClosed m codeword R cells marks cells_after marks_after r answer
      → RowSettled m codeword R (known_at cells marks) (known_at cells_after marks_after) r answer
  row_closes cells marks cells_after marks_after r Filled (word, (only, bytes, filled)) =
      (word, (only, λ c below. rw (filled c below, bytes c below) (filled_known (byte marks (cell R r c)) (byte word c))))
  row_closes cells marks cells_after marks_after r Torn (none, _, unmarked) = (none, λ c below. rw (unmarked c below))
  row_closes cells marks cells_after marks_after r Open (several, bytes, same) = (several, λ c below. rw (same c below, bytes c below))

  -- its starts stay, if some codeword agrees with it
  pub row_starts : (cells marks cells_after marks_after : List ℕ) (r : ℕ) (answer : Mended) → RowClosed m codeword R cells marks cells_after marks_after r answer
      → (word : List ℕ) → AgreesInRow m codeword R (known_at cells marks) r word → (c : ℕ) → c < width m → start_at marks_after (cell R r c) ≡ start_at marks (cell R r c)
  row_starts cells marks cells_after marks_after r Filled (_, (_, _, filled)) word agrees c below = rw (filled c below) (filled_start (byte marks (cell R r c)))
  row_starts cells marks cells_after marks_after r Torn (none, _, _) word agrees c below = absurd (none word agrees)
  row_starts cells marks cells_after marks_after r Open (_, _, same) word agrees c below = rw (same c below)

  module _ (before : ℕ → Option ℕ) (r : ℕ) where
    says : (after : ℕ → Option ℕ) (answer : Mended) → RowSettled m codeword R before after r answer → Says before r answer
    says after Filled (word, (only, has)) = (word, only)
    says after Torn (none, has) = none
    says after Open (several, has) = several

    -- a codeword that alone agreed is in the row
    holds : (after : ℕ → Option ℕ) (answer : Mended) → RowSettled m codeword R before after r answer
        → (word : List ℕ) → OnlyAgrees m codeword R before r word → RowKnows m R after r (λ c. Some (byte word c))
    holds after Filled (own, (sole, has)) word only c below = has c below ∙ ap (λ w. Some (byte w c)) (only.only own sole.is)
    holds after Torn (none, _) word only c below = absurd (none word only.is)
    holds after Open (several, _) word only c below = absurd (not_two only several)

    -- a codeword that agrees with the row still does then, and each cell that was known is known still
    pub agrees_still : (after : ℕ → Option ℕ) (answer : Mended) → RowSettled m codeword R before after r answer
        → (word : List ℕ) → AgreesInRow m codeword R before r word → AgreesInRow m codeword R after r word
    agrees_still after Filled (own, (sole, has)) word agrees = record {
      is_codeword = agrees.is_codeword;
      same = λ c b below is. ap (λ w. byte w c) (sole.only word agrees) ∙ same_Some (byte own c) b (sym (has c below) ∙ is);
    }
    agrees_still after Torn (none, _) word agrees = absurd (none word agrees)
    agrees_still after Open (_, has) word agrees =
        record { is_codeword = agrees.is_codeword; same = λ c b below is. agrees.same c b below (sym (has c below) ∙ is) }

    pub known_still : (after : ℕ → Option ℕ) (answer : Mended) → RowSettled m codeword R before after r answer
        → (word : List ℕ) → AgreesInRow m codeword R before r word → (c : ℕ) → c < width m
        → (b : ℕ) × (before (cell R r c) ≡ Some b) → (b : ℕ) × (after (cell R r c) ≡ Some b)
    known_still after Filled (own, (_, has)) word agrees c below known = (byte own c, has c below)
    known_still after Torn (none, _) word agrees c below known = absurd (none word agrees)
    known_still after Open (_, has) word agrees c below (b, is) = (b, has c below ∙ is)

    -- a row closes in one way
    closes_so : (one other : ℕ → Option ℕ) (answer : Mended) → RowSettled m codeword R before one r answer → RowSettled m codeword R before other r answer
        → (c : ℕ) → c < width m → one (cell R r c) ≡ other (cell R r c)
    closes_so one other Filled p (word, (only, has)) c below = holds one Filled p word only c below ∙ sym (has c below)
    closes_so one other Torn (_, has) (_, also) c below = has c below ∙ sym (also c below)
    closes_so one other Open (_, has) (_, also) c below = has c below ∙ sym (also c below)

    pub closes_once : (one other : ℕ → Option ℕ) (a b : Mended) → RowSettled m codeword R before one r a → RowSettled m codeword R before other r b
        → (c : ℕ) → c < width m → one (cell R r c) ≡ other (cell R r c)
    closes_once one other a b p q =
        closes_so one other b (subst (RowSettled m codeword R before one r) (one_answer before r a b (says one a p) (says other b q)) p) q

-- a row that was closed is named by what was known of it before
pub row_named : (m : ℕ) (codeword : List ℕ → Type 0) (before : Table) (w : World) (r name : ℕ) (answer : Mended) → name ≡ number_of answer
    → RowSettled m codeword before.rows before.at (known_at w.cells w.marks) r answer → Named m codeword before w r name
row_named m codeword before w r name answer is closes =
    let so = says m codeword before.rows before.at r (known_at w.cells w.marks) answer closes in
    record {
      filled = named_so m codeword before.rows before.at r name answer Filled is so;
      torn = named_so m codeword before.rows before.at r name answer Torn is so;
      left_open = named_so m codeword before.rows before.at r name answer Open is so;
      holds = holds m codeword before.rows before.at r (known_at w.cells w.marks) answer closes;
    }
