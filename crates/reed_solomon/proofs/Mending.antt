-- What the solved values say of the row: they are its missing bytes, and where none solve, no codeword agrees.
use Rattle.std.proofs.Common.{◌≡◌, ℕ, ◌<◌, Bool, true, false, not, List, length, sym, ap, ◌∙◌, ap₂, arith}
use lib.Bits.{bit_xor, xor_self}
use Rattle.std.proofs.lemmas.Bool.{not-false}
use Rattle.octets.specs.Octets.{byte}
use Rattle.gf256.specs.Products.{times, power}
use Rattle.gf256.specs.Sums.{field_sum}
use Rattle.gf256.proofs.Bytes.{Byte, GF, same}
use Rattle.gf256.proofs.Field as field
use Rattle.gf256.proofs.NoZeroDivisors.{pow_is}
use Rattle.gf256.proofs.Vandermonde.{moment, moment_is}
use Rattle.rowcode.specs.Rows.{IsRow, is_known, Agrees, OnlyIs, NoneIs}
use Rattle.rs_code.specs.Codewords.{syndrome, Codeword}
use Rattle.rs_code.specs.Counts.{count, missing}
use Rattle.rs_code.proofs.Completions.{one_agrees}
use Rattle.rs_code.proofs.Places.{place, place_is, place_count}
use Rattle.rs_code.proofs.Rows.{filled_moment, apart_places}
use Rattle.gf256.proofs.Linear.{sum_same, equal_of_xor}
use Rattle.rs_code.proofs.Words.{number, cell, locator, locator_is, locator_apart, sum_is, syndrome_is, all_bytes}
use Rattle.reed_solomon.specs.Solving.{erasure_syndrome, Solves, NoneSolve, Apart, LocatorsOf, KnownBytes, Inserted}

module _ (known : List Bool) (row bytes locators : List ℕ)
    (wide : length row ≡ 255) (bytes_are : IsRow 255 bytes) (found : LocatorsOf known locators) (kept : KnownBytes known row bytes) where
  m : ℕ → Bool
  m = missing known

  -- the place of the u-th missing byte
  at : ℕ → ℕ
  at u = place m 255 u

  locator_at : (u : ℕ) → u < length locators → byte locators u ≡ number (locator (at u))
  unfolding m at
  locator_at u l =
      let p : (place m 255 u < 255) × (m (place m 255 u) ≡ true) × (count m (place m 255 u) ≡ u) = place_is m 255 u (omega (arith, found.count_is)) in
      ap (byte locators) (sym p.2) ∙ found.at (place m 255 u) p.0 p.1 ∙ sym (locator_is (place m 255 u))

  pub locators_apart : Apart (byte locators) (length locators)
  unfolding m at
  locators_apart i j l h e =
      apart_places GF locator m 255 locator_apart i j l (omega (arith, found.count_is))
      (same (locator (at i)) (locator (at j)) (sym (locator_at i (omega arith)) ∙ e ∙ locator_at j h))

  -- the values that a row has at the missing places
  pub values_of : List ℕ → ℕ → ℕ
  values_of word u = byte word (at u)

  pub values_of_lt : (word : List ℕ) → IsRow 255 word → (u : ℕ) → values_of word u < 256
  unfolding values_of
  values_of_lt word p u = all_bytes word p.bytes (at u)

  -- a syndrome of a row that has the known bytes: that of these alone, and what the missing bytes make
  syndrome_of : (word : List ℕ) → IsRow 255 word → ((k : ℕ) → k < 255 → missing known k ≡ false → byte word k ≡ byte row k)
      → (j : ℕ) → syndrome word j ≡ bit_xor (syndrome bytes j) (erasure_syndrome (byte locators) (values_of word) (length locators) j)
  unfolding m at values_of erasure_syndrome
  syndrome_of word p agrees j =
      sym (syndrome_is word p.bytes j)
      ∙ ap number (filled_moment GF locator (cell word p.bytes) (cell bytes bytes_are.bytes) X Y m 255 j
      (λ k l b. same (cell word p.bytes k) (cell bytes bytes_are.bytes k) (agrees k l b ∙ sym (kept.here k l b)))
      (λ k l b. same (cell bytes bytes_are.bytes k) GF.𝟘 (kept.not_here k l b))
      (λ k l b. ap locator (place_count m 255 k l b))
      (λ k l b. ap (cell word p.bytes) (place_count m 255 k l b)))
      ∙ ap₂ bit_xor (syndrome_is bytes bytes_are.bytes j) values
    where
      X : ℕ → Byte
      X u = locator (place m 255 u)

      Y : ℕ → Byte
      Y u = cell word p.bytes (place m 255 u)

      values : number (moment GF X Y (count m 255) j) ≡ field_sum (λ u. times (byte word (place m 255 u)) (power (byte locators u) j)) (length locators)
      values =
          ap number (moment_is GF X Y (count m 255) j)
          ∙ sum_is (λ u. GF.mul (Y u) (field.pow GF (X u) j)) (count m 255)
          ∙ ap (field_sum (λ u. times (number (Y u)) (number (field.pow GF (X u) j)))) (sym found.count_is)
          ∙ sum_same (λ u. times (number (Y u)) (number (field.pow GF (X u) j))) (λ u. times (byte word (place m 255 u)) (power (byte locators u) j)) (length locators)
          (λ u l. ap (times (byte word (place m 255 u))) (pow_is (X u) j ∙ ap (λ b. power b j) (sym (locator_at u l))))

  module _ (syndromes : List ℕ) (long : length syndromes ≡ 64) (syndromes_are : (j : ℕ) → j < 64 → byte syndromes j ≡ syndrome bytes j) where
    -- no values make the syndromes: no codeword agrees
    pub none_agrees : NoneSolve (byte locators) (byte syndromes) (length locators) (length syndromes) → NoneIs (Agrees Codeword known row)
    none_agrees none word p =
        none (values_of word) (values_of_lt word p.is_codeword.is_row)
        (λ j l.
        sym (equal_of_xor (syndrome bytes j) (erasure_syndrome (byte locators) (values_of word) (length locators) j)
        (sym (syndrome_of word p.is_codeword.is_row
        (λ k h b. p.same k (omega (arith, wide)) (not-false (is_known known k) b)) j) ∙ p.is_codeword.syndromes j (omega (arith, l, long))))
        ∙ sym (syndromes_are j (omega (arith, l, long))))

    -- values that make them, put in: the only codeword that agrees
    pub only_agrees : (after values : List ℕ) → IsRow 255 after → Inserted known row after values → Solves (byte locators) (byte values) (byte syndromes) (length locators) (length syndromes)
        → OnlyIs (Agrees Codeword known row) after
    unfolding m at values_of erasure_syndrome
    only_agrees after values p put solves = record {
      is = agrees;
      only = λ word q. one_agrees known row word after wide (omega (arith, found.few, found.count_is)) q agrees;
    }
      where
        values_are : (u : ℕ) → u < length locators → byte after (place m 255 u) ≡ byte values u
        values_are u l =
            let q : (place m 255 u < 255) × (m (place m 255 u) ≡ true) × (count m (place m 255 u) ≡ u) = place_is m 255 u (omega (arith, found.count_is)) in
            put.filled (place m 255 u) q.0 q.1 ∙ ap (byte values) q.2

        zero : (j : ℕ) → j < 64 → syndrome after j ≡ 0
        zero j l =
            syndrome_of after p put.kept j
            ∙ ap (bit_xor (syndrome bytes j))
            (sum_same (λ u. times (byte after (place m 255 u)) (power (byte locators u) j)) (λ u. times (byte values u) (power (byte locators u) j)) (length locators)
            (λ u h. ap (λ w. times w (power (byte locators u) j)) (values_are u h))
            ∙ solves j (omega (arith, l, long)) ∙ syndromes_are j l)
            ∙ xor_self (syndrome bytes j)

        agrees : Agrees Codeword known row after
        agrees = record {
          is_codeword = record { is_row = p; syndromes = zero };
          same = λ i l here. put.kept i (omega (arith, wide)) (ap not here);
        }
