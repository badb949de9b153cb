-- Rows of the bare code that are not wholly known.
use Rattle.std.proofs.Common.{◌≡◌, ℕ, ◌<◌, Bool, false, List, length, get_or, set, sym, ap, ◌∙◌, arith, length-set, lit<}
use Rattle.octets.specs.Octets.{Bytes}
use Rattle.std.proofs.lemmas.Bool.{cases_eq, true≢false}
use Rattle.std.proofs.lemmas.List.{get_or-set_same, get_or-set_other}
use Rattle.rowcode.specs.Rows.{IsRow, Agrees, TwoAre, is_known}

-- bytes with a byte put among them are bytes
pub bytes_set : (row : List ℕ) (i b : ℕ) → Bytes row → b < 256 → Bytes (set row i b)
bytes_set row i b is small k l =
    let inside : k < length row = omega (arith, length-set row i b) in
    grind (arith, get_or-set_same, get_or-set_other, cases_eq k i, is k inside)

-- with another byte at a place that is not known, a row agrees with what is known
other_agrees : (known : List Bool) (row : List ℕ) (i b : ℕ) → IsRow 191 row → b < 256 → i < length row → is_known known i ≡ false
    → Agrees (IsRow 191) known row (set row i b)
other_agrees known row i b is small inside unknown = record {
  is_codeword = record { width_is = length-set row i b ∙ is.width_is; bytes = bytes_set row i b is.bytes small };
  same = λ k l here. get_or-set_other row i k b 0 (λ e. absurd (true≢false (sym here ∙ ap (is_known known) e ∙ unknown)));
}

-- so two that differ do
pub two_rows : (known : List Bool) (row : List ℕ) (i : ℕ) → IsRow 191 row → i < length row → is_known known i ≡ false
    → TwoAre (Agrees (IsRow 191) known row)
two_rows known row i is inside unknown = record {
  one = set row i 0;
  other = set row i 1;
  one_is = other_agrees known row i 0 is (lit< tt) inside unknown;
  other_is = other_agrees known row i 1 is (lit< tt) inside unknown;
  differ = λ same.
      let zero : get_or (set row i 0) i 0 ≡ 0 = get_or-set_same row i 0 0 inside in
      let one : get_or (set row i 1) i 0 ≡ 1 = get_or-set_same row i 1 0 inside in
      absurd (omega (arith, ap (λ word. get_or word i 0) same));
}
