-- The worked cases of rows, shown by the laws of the code.
use Rattle.std.proofs.Common.{◌≡◌, ◌≢◌, ℕ, zero, suc, ◌-◌, ◌*◌, ◌<◌, ◌≤◌, Bool, true, false, List, length, set, sym, refl, ap, ap₂, ◌∙◌, subst, arith, bit_xor, lit<}
use native.Mathlib.Decide.{ℕ_discrete, dec_lt}
use Rattle.std.proofs.lemmas.List.{get_or-replicate, length-replicate, get_or-set_same, get_or-set_other, get_or_past}
use Rattle.octets.specs.Octets.{byte}
use Rattle.gf256.specs.Products.{times, power}
use Rattle.gf256.specs.Sums.{field_sum}
use Rattle.gf256.proofs.ProductLaws.{zero_times}
use Rattle.rowcode.specs.Answers.{Mends}
use Rattle.rowcode.specs.Rows.{IsRow, is_known, Agrees}
use Rattle.rowcode.specs.declared.Mended.{Mended}
use Rattle.rowcode.specs.declared.Mended.TheVariants.{Filled, Torn, Open}
use Rattle.rowcode.proofs.Settled.{mends_once}
use Rattle.rs_code.specs.Codewords.{Codeword, syndrome}
use Rattle.rs_code.specs.Counts.{count, known_count}
use Rattle.std.proofs.lemmas.Bool.{true≢false}
use Rattle.rs_code.proofs.LawsHold.{laws_hold}
use Rattle.rs_code.proofs.Places.{count_past, count_more, count_none, by_bool}
use Rattle.worked_cases.specs.RowCases.{zeros, KnownZeros, KnownZerosButOne, MendGives, RowCases}

-- ---- zeros are a codeword

sum_of_zeros : (f : ℕ → ℕ) (n : ℕ) → ((i : ℕ) → i < n → f i ≡ 0) → field_sum f n ≡ 0
unfolding field_sum
sum_of_zeros f zero h = refl
sum_of_zeros f (suc n) h = ap₂ bit_xor (sum_of_zeros f n (λ i l. h i (omega arith))) (h n (omega arith))

zero_at : (i : ℕ) → i < 255 → byte zeros i ≡ 0
zero_at i l = get_or-replicate 255 i 0 0 l

zeros_row : IsRow 255 zeros
zeros_row =
    let wide : length zeros ≡ 255 = length-replicate {A = ℕ} 255 0 in
    record { width_is = wide; bytes = λ k l. subst (λ (b : ℕ). b < 256) (sym (zero_at k (omega (arith, wide)))) (lit< tt) }

zeros_codeword : Codeword zeros
unfolding syndrome
zeros_codeword = record {
  is_row = zeros_row;
  syndromes = λ j l. sum_of_zeros (λ i. times (byte zeros i) (power 2 (j * (254 - i)))) 255
      (λ i h. ap (λ b. times b (power 2 (j * (254 - i)))) (zero_at i h) ∙ zero_times (power 2 (j * (254 - i))));
}

zeros_agree : (known : List Bool) (row : List ℕ) → length row ≡ 255 → KnownZeros known row → Agrees Codeword known row zeros
zeros_agree known row wide known_zeros = record {
  is_codeword = zeros_codeword;
  same = λ i l here. let k : i < 255 = omega (arith, wide) in zero_at i k ∙ sym (known_zeros i k here);
}

-- ---- what mend gives

settled : (known : List Bool) (row after : List ℕ) (answer : Mended) → Mends Codeword known row after answer → MendGives known row answer after
settled known row after answer p = record {
  allowed = p;
  only = λ another other q. mends_once Codeword known row other after another answer q p;
}

filled_case : (known : List Bool) (row : List ℕ) → IsRow 255 row → known_count known ≡ 191 → KnownZeros known row → MendGives known row Filled zeros
filled_case known row is many known_zeros =
    let agree : Agrees Codeword known row zeros = zeros_agree known row is.width_is known_zeros in
    settled known row zeros Filled
    (record { is = agree; only = λ v p. laws_hold.at_most_one known row v zeros is (omega (arith, many)) p agree })

open_case : (known : List Bool) (row : List ℕ) → IsRow 255 row → known_count known ≡ 190 → KnownZeros known row → MendGives known row Open row
open_case known row is many known_zeros = settled known row row Open (laws_hold.leave_open known row is (omega (arith, many)), refl)

-- ---- one place less is one less in the count

same_before : (m m' : ℕ → Bool) (p n : ℕ) → ((k : ℕ) → k ≢ p → m' k ≡ m k) → n ≤ p → count m' n ≡ count m n
same_before m m' p zero h l = count_none m' ∙ sym (count_none m)
same_before m m' p (suc n) h l = go (same_before m m' p n h (omega arith)) (h n (omega arith))
  where
    go : count m' n ≡ count m n → m' n ≡ m n → count m' (suc n) ≡ count m (suc n)
    go r e =
        by_bool (m n) (λ b. count_more m' n (e ∙ b) ∙ ap suc r ∙ sym (count_more m n b))
        (λ b. count_past m' n (e ∙ b) ∙ r ∙ sym (count_past m n b))

one_less : (m m' : ℕ → Bool) (p n : ℕ) → m p ≡ true → m' p ≡ false → ((k : ℕ) → k ≢ p → m' k ≡ m k) → p < n → count m n ≡ suc (count m' n)
one_less m m' p zero here gone h l = absurd (omega arith)
one_less m m' p (suc n) here gone h l = pick (ℕ_discrete n p) (one_less m m' p n here gone h)
  where
    pick : Dec (n ≡ p) → (p < n → count m n ≡ suc (count m' n)) → count m (suc n) ≡ suc (count m' (suc n))
    pick (yes e) r =
        count_more m n (ap m e ∙ here) ∙ ap suc (sym (same_before m m' p n h (omega (arith, e))) ∙ sym (count_past m' n (ap m' e ∙ gone)))
    pick (no d) r = go (r (omega (arith, d))) (h n d)
      where
        go : count m n ≡ suc (count m' n) → m' n ≡ m n → count m (suc n) ≡ suc (count m' (suc n))
        go r e =
            by_bool (m n) (λ b. count_more m n b ∙ ap suc (r ∙ sym (count_more m' n (e ∙ b))))
            (λ b. count_past m n b ∙ r ∙ ap suc (sym (count_past m' n (e ∙ b))))

-- ---- torn: but for the place of the 1, zeros and a codeword that agrees have 191 known bytes in common

torn_case : (known : List Bool) (row : List ℕ) → IsRow 255 row → known_count known ≡ 192 → KnownZerosButOne known row → MendGives known row Torn row
torn_case known row is many but = settled known row row Torn (none, refl)
  where
    p : ℕ
    p = but.place

    -- known but for that place
    fewer : List Bool
    fewer = set known p false

    gone : is_known fewer p ≡ false
    gone = pick (dec_lt p (length known))
      where
        pick : Dec (p < length known) → is_known fewer p ≡ false
        pick (yes l) = get_or-set_same known p false false l
        pick (no n) = absurd (true≢false (sym but.here ∙ get_or_past known p false (omega (arith, n))))

    others : (k : ℕ) → k ≢ p → is_known fewer k ≡ is_known known k
    others k ne = get_or-set_other known p k false false ne

    count_191 : known_count fewer ≡ 191
    count_191 = let e : known_count known ≡ suc (known_count fewer) = one_less (is_known known) (is_known fewer) p 255 but.here gone others but.inside in omega (arith, e, many)

    none : (v : List ℕ) → Agrees Codeword known row v → ⊥
    none v q =
        absurd (omega (arith, sym but.one ∙ sym (q.same p (omega (arith, is.width_is, but.inside)) but.here) ∙ ap (λ w. byte w p) same ∙ zero_at p but.inside))
      where
        same : v ≡ zeros
        same =
            laws_hold.at_most_one fewer row v zeros is (omega (arith, count_191))
            (record { is_codeword = q.is_codeword; same = λ i l here. q.same i l (known_there i here) })
            (zeros_agree fewer row is.width_is (λ i l here. but.others i l (not_p i here) (known_there i here)))
          where
            not_p : (i : ℕ) → is_known fewer i ≡ true → i ≢ p
            not_p i here e = true≢false (sym here ∙ ap (is_known fewer) e ∙ gone)

            known_there : (i : ℕ) → is_known fewer i ≡ true → is_known known i ≡ true
            known_there i here = sym (others i (not_p i here)) ∙ here

pub row_cases : RowCases
row_cases = record {
  filled = λ known row is long. filled_case known row is;
  open_row = λ known row is long. open_case known row is;
  torn = λ known row is long. torn_case known row is;
}
