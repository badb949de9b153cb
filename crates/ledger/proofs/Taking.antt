-- Any section can be taken into any burst whose buffers have its cells: there are buffers as take leaves them.
use Rattle.std.proofs.Common.{◌≡◌, ℕ, ◌+◌, ◌<◌, ◌≤◌, true, false, List, length, map, Some, None, Option, refl, sym, ◌∙◌, ⊎_elim, arith}
use Rattle.std.specs.List.{range_with_len}
use Rattle.std.proofs.lemmas.Bool.{cases_lt, and_parts, and_right, false_from_ne_true, ltb-true, le-ltb}
use Rattle.std.proofs.lemmas.List.{get_or_past}
use Rattle.std.proofs.lemmas.List.FromFn.{length-map-range_with_len, get_or-map-range_with_len}
use Rattle.octets.specs.Octets.{byte}
use Rattle.geometry.specs.Cells.{table_size}
use Rattle.frame.specs.Fields.{Fields}
use Rattle.table.specs.Telling.{first_cell, carries, padded_from, from_on, pads}
use Rattle.table.specs.Bursts.{Numbers}
use Rattle.table.specs.Taking.{byte_after, mark_after, numbers_after, Took}

-- n numbers by their places
pub listed : (n : ℕ) → (ℕ → ℕ) → List ℕ
listed n at = map at (range_with_len 0 n)

pub length_listed : (n : ℕ) (at : ℕ → ℕ) → length (listed n at) ≡ n
unfolding listed
length_listed n at = length-map-range_with_len at 0 n

pub byte_listed : (n : ℕ) (at : ℕ → ℕ) (i : ℕ) → (n ≤ i → at i ≡ 0) → byte (listed n at) i ≡ at i
unfolding listed
byte_listed n at i behind =
    ⊎_elim (λ below. get_or-map-range_with_len at 0 n i i 0 below (omega arith))
    (λ past. get_or_past (map at (range_with_len 0 n)) i 0 (omega (arith, past, length-map-range_with_len at 0 n)) ∙ sym (behind past))
    (cases_lt i n)

-- what a section makes padding, and what it carries, ends with the buffers
below_end : (R i : ℕ) (from : Option ℕ) → from_on R from i ≡ true → i < table_size R
below_end R i (Some x) on = ltb-true i (table_size R) (and_parts _ _ on).1
below_end R i None on = cc

module _ (f : Fields) (R n i : ℕ) (past : n ≤ i) where
  no_padding : table_size R ≤ n → pads R f i ≡ false
  no_padding fit = false_from_ne_true _ (λ padded. absurd (omega (arith, past, fit, below_end R i (padded_from R f) padded)))

  none_carried : first_cell R f + length f.payload ≤ n → carries R f i ≡ false
  none_carried ends = and_right _ _ (le-ltb i (first_cell R f + length f.payload) (omega (arith, past, ends)))

-- the buffers as the section leaves them
pub can_take : (f : Fields) (arrival : ℕ) (burst : Numbers) (cells marks : List ℕ) (n : ℕ) → length cells ≡ n → length marks ≡ n → table_size burst.rows ≤ n
    → first_cell burst.rows f + length f.payload ≤ n
    → Took f arrival burst cells marks (numbers_after f arrival burst) (listed n (λ i. byte_after burst.rows f i (byte cells i))) (listed n (λ i. mark_after burst.rows f i (byte marks i)))
can_take f arrival burst cells marks n cells_size marks_size fit ends = record {
  numbers = refl;
  cells_size = length_listed n _ ∙ sym cells_size;
  marks_size = length_listed n _ ∙ sym marks_size;
  each_cell = λ i.
      byte_listed n _ i
      (λ past. rw (no_padding f burst.rows n i past fit, none_carried f burst.rows n i past ends) (get_or_past cells i 0 (omega (arith, past, cells_size))));
  each_mark = λ i.
      byte_listed n _ i
      (λ past. rw (no_padding f burst.rows n i past fit, none_carried f burst.rows n i past ends) (get_or_past marks i 0 (omega (arith, past, marks_size))));
}
