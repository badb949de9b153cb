-- A row that is put back byte by byte.
use Rattle.std.proofs.Common.{◌≡◌, ◌≢◌, ℕ, ◌+◌, ◌<◌, ◌≤◌, List, length, slice_set, refl, ◌∙◌, arith, ◌⊎◌, inl, inr}
use Rattle.std.proofs.lemmas.Bool.{cases_eq, cases_lt}
use Rattle.std.proofs.lemmas.List.{get_or-set_same, get_or-set_other, length-set}
use Rattle.std.proofs.Math.Nat.{mul-le-mul_right, mul-lt-mul_of_pos_right}
use Rattle.octets.specs.Octets.{byte}
use Rattle.geometry.specs.Cells.{cell}
use Rattle.frame_row.specs.Rows.{PutBack}

-- the first n bytes have been put
record FirstPut (R row n : ℕ) (bytes before after : List ℕ) : Type 0 where
  size : length after ≡ length before
  here : (c : ℕ) → c < n → cell R row c < length before → byte after (cell R row c) ≡ byte bytes c
  others : (i : ℕ) → ((c : ℕ) → c < n → i ≢ cell R row c) → byte after i ≡ byte before i

-- opaque, so that it is one fact to a tactic
pub PutTo : (R row n : ℕ) → (bytes before after : List ℕ) → Type 0
PutTo R row n bytes before after = FirstPut R row n bytes before after

-- no byte changes nothing
pub put_none : (R row : ℕ) (bytes before : List ℕ) → PutTo R row 0 bytes before before
unfolding PutTo
put_none R row bytes before = record { size = refl; here = λ c h. absurd (omega arith); others = λ i none. refl }

-- one byte more, at its cell
pub put_more : (R row n at b : ℕ) (bytes before cells : List ℕ) → 1 ≤ R → at ≡ cell R row n → at < length cells → b ≡ byte bytes n → PutTo R row n bytes before cells → PutTo R row (n + 1) bytes before (slice_set cells at b)
unfolding PutTo
put_more R row n at b bytes before cells some there inside is to =
    let other : (i : ℕ) → i ≢ at → byte (slice_set cells at b) i ≡ byte cells i = λ i e. get_or-set_other cells at i b 0 e in
    record {
      size = length-set cells at b ∙ to.size;
      here = λ c h l. elim (cases_eq c n) [
        | inl e ↦ rw (e, ← there) (get_or-set_same cells at b 0 inside ∙ is)
        | inr e ↦ let less : c < n = omega arith in other (cell R row c) (λ same. omega (arith, mul-lt-mul_of_pos_right {k = R} less (omega arith))) ∙ to.here c less l
      ];
      others = λ i none. other i (λ same. none n (omega arith) (same ∙ there)) ∙ to.others i (λ c h. none c (omega arith));
    }

-- all bytes, or all that have a cell, are the whole row
pub put_all : (R row n : ℕ) (bytes before after : List ℕ) → n ≤ length bytes → (length bytes ≤ n) ⊎ (length before ≤ cell R row n) → PutTo R row n bytes before after → PutBack R row bytes before after
unfolding PutTo
put_all R row n bytes before after some end to =
    let put : (c : ℕ) → c < length bytes → cell R row c < length before → c < n = λ c h l. elim (cases_lt c n) [
      | inl less ↦ less
      | inr more ↦ absurd (omega (arith, mul-le-mul_right R more, end))
    ] in
    record { size = to.size; here = λ c h l. to.here c (put c h l) l; others = λ i none. to.others i (λ c h. none c (omega arith)) }
