-- The row code of the witness: 191 bytes begin just one codeword, and a codeword is known by its bytes behind byte 0.
use Rattle.std.proofs.Common.{◌≡◌, ℕ, zero, suc, ◌<◌, ◌≤◌, List, [], ◌∷◌, ◌++◌, length, sym, ap, ◌∙◌, ⊎_elim, arith}
use Rattle.std.proofs.lemmas.Bool.{cases_lt}
use Rattle.std.proofs.lemmas.List.{ext_get_or, get_or_append_left, get_or-append_right, get_or-take, length-append, take-append-le}
use Rattle.octets.specs.Octets.{byte}
use Rattle.rowcode.specs.Rows.{IsRow, Begins, OnlyIs}
use Rattle.ledger.specs.Witness.{Repeats}

-- two codewords are one if they are the same behind byte 0, which the check byte repeats
pub same_behind_0 : (v w : List ℕ) → Repeats v → Repeats w → ((c : ℕ) → 1 ≤ c → c < 192 → byte v c ≡ byte w c) → v ≡ w
same_behind_0 v w one other same = ext_get_or 0 v w (one.is_row.width_is ∙ sym other.is_row.width_is) each
  where
    each : (c : ℕ) → c < length v → byte v c ≡ byte w c
    each zero below = sym one.check ∙ same 191 (omega arith) (omega arith) ∙ other.check
    each (suc c) below = same (suc c) (omega arith) (omega (arith, below, one.is_row.width_is))

-- and so they are if they are the same before the check byte
pub same_front : (v w : List ℕ) → Repeats v → Repeats w → ((c : ℕ) → c < 191 → byte v c ≡ byte w c) → v ≡ w
same_front v w one other same = ext_get_or 0 v w (one.is_row.width_is ∙ sym other.is_row.width_is) each
  where
    each : (c : ℕ) → c < length v → byte v c ≡ byte w c
    each c below =
        ⊎_elim (same c)
        (λ past. let at : c ≡ 191 = omega (arith, past, below, one.is_row.width_is) in rw at (one.check ∙ same 0 (omega arith) ∙ sym other.check))
        (cases_lt c 191)

module _ (front : List ℕ) (row : IsRow 191 front) where
  -- the codeword that they begin
  word : List ℕ
  word = front ++ (byte front 0 ∷ [])

  early : (c : ℕ) → c < 191 → byte word c ≡ byte front c
  unfolding word
  early c below = get_or_append_left front _ 0 c (omega (arith, below, row.width_is))

  last : byte word 191 ≡ byte front 0
  unfolding word
  last = get_or-append_right front _ 191 191 0 row.width_is (omega arith)

  size : length word ≡ 192
  unfolding word
  size = length-append front _ ∙ omega (arith, row.width_is)

  front_byte : (c : ℕ) → c < 191 → byte front c < 256
  front_byte c below = row.bytes c (omega (arith, below, row.width_is))

  is_codeword : Repeats word
  is_codeword = record {
    is_row = record {
      width_is = size;
      bytes = λ c below.
          ⊎_elim (λ inside. rw (early c inside) (front_byte c inside))
          (λ past. let at : c ≡ 191 = omega (arith, past, below, size) in rw (at, last) (front_byte 0 (omega arith))) (cases_lt c 191);
    };
    check = last ∙ sym (early 0 (omega arith));
  }

  begins : Begins Repeats front word
  unfolding word
  begins = record { is_codeword = is_codeword; same = take-append-le 191 front _ (omega (arith, row.width_is)) }

pub any_begins : (front : List ℕ) → IsRow 191 front → (word : List ℕ) × OnlyIs (Begins Repeats front) word
any_begins front row = (
  word front row,
  record {
    is = begins front row;
    only = λ v also.
        same_front v (word front row) also.is_codeword (is_codeword front row)
        (λ c below.
        sym (get_or-take 191 v c 0 below)
        ∙ ap (λ xs. byte xs c) (also.same ∙ sym (begins front row).same)
        ∙ get_or-take 191 (word front row) c 0 below);
  },
)
