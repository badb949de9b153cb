-- The close of the witness: one byte is unknown in each row, that of column 0 or the check byte, and the other tells it.
use Rattle.std.proofs.Common.{◌≡◌, ℕ, ◌<◌, ◌≤◌, true, eqb, List, length, replicate, Some, refl, sym, ap, ◌∙◌, ⊎_elim, arith}
use Rattle.std.proofs.lemmas.Bool.{cases_lt, cases_Bool, lt-ltb, le-ltb, le-leb, lt-leb}
use Rattle.std.proofs.lemmas.List.{get_or-replicate}
use Rattle.octets.specs.Octets.{byte}
use Rattle.geometry.specs.Cells.{cell}
use Rattle.marks.specs.Marks.{mark_of, is_known}
use Rattle.rowcode.specs.declared.Mended.TheVariants.{Filled}
use Rattle.frame.specs.Fields.{fields_of}
use Rattle.frame.specs.Frames.{Frame, Lawful, row_of}
use Rattle.table.specs.Bursts.{known_at}
use Rattle.table.specs.Rows.{OnlyAgrees}
use Rattle.table.specs.Taking.{mark_after}
use Rattle.table.specs.Closing.{filled_mark, RowClosed, Closed}
use Rattle.ledger.specs.Witness.{Repeats, first_section, second_section, check_section}
use Rattle.ledger.proofs.Taking.{listed, length_listed, byte_listed}
use Rattle.ledger.proofs.Repeating.{same_behind_0, same_front}
use Rattle.ledger.proofs.WitnessSections.{in_row}

-- By these marks enough is known of each row: two codewords that are the same in all known bytes are one.
abbrev pub Enough : (mark : ℕ → ℕ) → Type 0
Enough mark =
    (r : ℕ) → r < 20 → (v w : List ℕ) → Repeats v → Repeats w
    → ((c : ℕ) → c < 192 → is_known (mark_of (mark (cell 20 r c))) ≡ true → byte v c ≡ byte w c)
    → v ≡ w

-- the mark of each cell once the sections of the first run are taken
abbrev pub mark_with_loss : ℕ → ℕ
mark_with_loss i = mark_after 20 (fields_of check_section) i (mark_after 20 (fields_of second_section) i 0)

-- and those of the second run
abbrev pub mark_without_loss : ℕ → ℕ
mark_without_loss i = mark_after 20 (fields_of second_section) i (mark_after 20 (fields_of first_section) i 0)

-- every cell behind column 0 is known
behind_known : (i : ℕ) → 20 ≤ i → i < 3840 → is_known (mark_of (mark_with_loss i)) ≡ true
behind_known i some below =
    ⊎_elim
    (λ early.
    rw (lt-leb 40 i early, lt-leb 3820 i (omega arith), le-leb 20 i some, lt-ltb i 40 early)
    (⊎_elim (λ is. rw is) (λ is. rw is) (cases_Bool (eqb i 20))))
    (λ behind.
    ⊎_elim
    (λ padded. rw (le-leb 40 i behind, lt-ltb i 3820 padded))
    (λ checks. rw (le-leb 40 i behind, le-ltb i 3820 checks, le-leb 3820 i checks, lt-ltb i 3840 below, le-leb 20 i some, le-ltb i 40 behind))
    (cases_lt i 3820))
    (cases_lt i 40)

pub enough_with_loss : Enough mark_with_loss
enough_with_loss r below v w one other same =
    same_behind_0 v w one other (λ c some inside. same c inside (behind_known (cell 20 r c) (omega arith) (omega arith)))

-- every cell before the check column is known
before_known : (i : ℕ) → i < 3820 → is_known (mark_of (mark_without_loss i)) ≡ true
before_known i below =
    ⊎_elim
    (λ early.
    rw (lt-leb 40 i (omega arith), lt-leb 20 i early, le-leb 0 i (omega arith), lt-ltb i 20 early)
    (⊎_elim (λ is. rw is) (λ is. rw is) (cases_Bool (eqb i 0))))
    (λ behind.
    ⊎_elim
    (λ second.
    rw (lt-leb 40 i second, le-leb 20 i behind, lt-ltb i 40 second, le-leb 0 i (omega arith), le-ltb i 20 behind)
    (⊎_elim (λ is. rw is) (λ is. rw is) (cases_Bool (eqb i 20))))
    (λ padded. rw (le-leb 40 i padded, lt-ltb i 3820 below))
    (cases_lt i 40))
    (cases_lt i 20)

pub enough_without_loss : Enough mark_without_loss
enough_without_loss r below v w one other same =
    same_front v w one other (λ c inside. same c (omega arith) (before_known (cell 20 r c) (omega arith)))

-- the marks as the close leaves them
pub marks_closed : List ℕ → List ℕ
marks_closed marks = listed 3840 (λ i. filled_mark (byte marks i))

pub mark_closed : (marks : List ℕ) (i : ℕ) → i < 3840 → byte (marks_closed marks) i ≡ filled_mark (byte marks i)
unfolding marks_closed
mark_closed marks i below = byte_listed 3840 _ i (λ past. absurd (omega (arith, past, below)))

module _ (mark : ℕ → ℕ) (enough : Enough mark) (frame : Frame) (lawful : Lawful 1 Repeats 20 frame) (cells marks : List ℕ)
    (cells_size : length cells ≡ 3840) (marks_size : length marks ≡ 3840) (marks_are : (i : ℕ) → byte marks i ≡ mark i)
    (agrees : (i b : ℕ) → known_at cells marks i ≡ Some b → byte frame.cells i ≡ b) where
  -- the byte of a known cell is the frame's
  known_cell : (i : ℕ) → is_known (mark_of (mark i)) ≡ true → known_at cells marks i ≡ Some (byte frame.cells i)
  known_cell i is =
      let known : known_at cells marks i ≡ Some (byte cells i) = rw (marks_are i, is) refl in
      known ∙ ap Some (sym (agrees i (byte cells i) known))

  -- the frame's row is the only codeword that agrees with what is known of one
  alone : (r : ℕ) → r < 20 → OnlyAgrees 1 Repeats 20 (known_at cells marks) r (row_of 1 20 frame.cells r)
  alone r below = record {
    is = record { is_codeword = lawful.codewords r below; same = λ c b inside known. in_row frame.cells r c inside ∙ agrees (cell 20 r c) b known };
    only = λ v also.
        enough r below v (row_of 1 20 frame.cells r) also.is_codeword (lawful.codewords r below)
        (λ c inside known.
        also.same c (byte frame.cells (cell 20 r c)) inside (known_cell (cell 20 r c) known)
        ∙ sym (in_row frame.cells r c inside));
  }

  -- so each row is filled with it
  row_filled : (r : ℕ) → r < 20 → RowClosed 1 Repeats 20 cells marks frame.cells (marks_closed marks) r Filled
  row_filled r below = (
    row_of 1 20 frame.cells r,
    (alone r below, λ c inside. sym (in_row frame.cells r c inside), λ c inside. mark_closed marks (cell 20 r c) (omega arith)),
  )

  pub rows_filled : Closed 1 Repeats 20 cells marks frame.cells (marks_closed marks) (replicate 255 0) (replicate 20 1)
  unfolding marks_closed
  rows_filled = record {
    cells_size = lawful.size ∙ sym cells_size;
    marks_size = length_listed 3840 _ ∙ sym marks_size;
    names_size = refl;
    each_row = λ r below. (Filled, (get_or-replicate 20 r 1 0 below, row_filled r below));
    scratch_is_0 = refl;
  }
