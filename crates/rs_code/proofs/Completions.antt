-- Codewords that agree with what is known of a row: with at most 64 bytes missing there is at most one, with 64 or more at
-- least one, with more than 64 there are two.
use Rattle.std.proofs.Common.{◌≡◌, ℕ, zero, suc, ◌<◌, ◌≤◌, min, Bool, true, false, cond, not, T, ltb, List, length, sym, refl, ap, ◌∙◌, subst, ap₂, arith, lit<, ltb→lt, nltb→le}
use native.Mathlib.Decide.{ℕ_discrete}
use Rattle.std.proofs.lemmas.List.{ext_get_or}
use Rattle.std.proofs.lemmas.Bool.{not-false, true≢false}
use Rattle.octets.specs.Octets.{Bytes, byte}
use Rattle.gf256.proofs.Bytes.{Byte, GF, same}
use Rattle.rowcode.specs.Rows.{IsRow, is_known, Agrees, OnlyIs, TwoAre}
use Rattle.rs_code.specs.Codewords.{Codeword}
use Rattle.rs_code.specs.Counts.{count, missing, missing_count}
use Rattle.rs_code.proofs.Places.{count_past, count_more, count_none, by_bool, place, place_is}
use Rattle.rs_code.proofs.Rows.{at_most_one, fill, fill_known, fill_moment}
use Rattle.rs_code.proofs.Words.{number, cell, locator, locator_apart, moment_of_codeword, listed, listed_at, listed_codeword}

-- two rows that are equal at each place below 255
pub same_rows : (one other : List ℕ) → IsRow 255 one → IsRow 255 other → ((i : ℕ) → i < 255 → byte one i ≡ byte other i) → one ≡ other
same_rows one other p q h = ext_get_or 0 one other (p.width_is ∙ sym q.width_is) (λ i l. h i (omega (arith, p.width_is)))

-- two codewords that are equal at all places but 64 are equal
pub one_codeword : (m : ℕ → Bool) (one other : List ℕ) → count m 255 ≤ 64 → Codeword one → Codeword other
    → ((i : ℕ) → i < 255 → m i ≡ false → byte one i ≡ byte other i) → one ≡ other
one_codeword m one other few p q h =
    let b : Bytes one = p.is_row.bytes in let d : Bytes other = q.is_row.bytes in
    same_rows one other p.is_row q.is_row
    (λ i l. ap number (at_most_one GF locator (cell one b) (cell other d) m 255 locator_apart
    (λ k k<255 out. same (cell one b k) (cell other d k) (h k k<255 out))
    (λ j below. moment_of_codeword one b j (p.syndromes j (omega arith)) ∙ sym (moment_of_codeword other d j (q.syndromes j (omega arith)))) i l))

-- ---- at most one

pub one_agrees : (known : List Bool) (row one other : List ℕ) → length row ≡ 255 → missing_count known ≤ 64
    → Agrees Codeword known row one → Agrees Codeword known row other → one ≡ other
one_agrees known row one other wide few p q =
    one_codeword (missing known) one other few p.is_codeword q.is_codeword
    (λ i l out. let here : is_known known i ≡ true = not-false (is_known known i) out in
    p.same i (omega (arith, wide)) here ∙ sym (q.same i (omega (arith, wide)) here))

-- ---- at least one

-- the elements B, with 64 marked places or more filled so that a codeword comes out
pub some_agrees : (known : List Bool) (row : List ℕ) (B : ℕ → Byte) (m : ℕ → Bool) → IsRow 255 row → 64 ≤ count m 255
    → ((k : ℕ) → k < 255 → is_known known k ≡ true → (m k ≡ false) × (number (B k) ≡ byte row k))
    → Agrees Codeword known row (listed (fill GF locator B m 255))
some_agrees known row B m is many h = record {
  is_codeword = listed_codeword (fill GF locator B m 255) (λ j l. fill_moment GF locator B m 255 locator_apart j (omega arith));
  same = λ i l here. let k : i < 255 = omega (arith, is.width_is) in
      listed_at (fill GF locator B m 255) i k ∙ ap number (fill_known GF locator B m 255 i (h i k here).0) ∙ (h i k here).1;
}

-- with just 64 bytes missing there is one, and no other
pub just_one : (known : List Bool) (row : List ℕ) → IsRow 255 row → missing_count known ≡ 64
    → (word : List ℕ) × OnlyIs (Agrees Codeword known row) word
just_one known row is many = (
  word,
  record { is = agrees; only = λ v p. one_agrees known row v word is.width_is (omega (arith, many)) p agrees },
)
  where
    word : List ℕ
    word = listed (fill GF locator (cell row is.bytes) (missing known) 255)

    agrees : Agrees Codeword known row word
    agrees = some_agrees known row (cell row is.bytes) (missing known) is (omega (arith, many)) (λ k l here. (ap not here, refl))

-- ---- two, with more than 64 bytes missing

-- the first 64 marked places
abbrev first : (ℕ → Bool) → ℕ → Bool
first m k = cond (m k) (ltb (count m k) 64) false

first_count : (m : ℕ → Bool) (n : ℕ) → count (first m) n ≡ min (count m n) 64
first_count m zero = count_none (first m) ∙ ap (λ (x : ℕ). min x 64) (sym (count_none m))
first_count m (suc n) = go (first_count m n)
  where
    go : count (first m) n ≡ min (count m n) 64 → count (first m) (suc n) ≡ min (count m (suc n)) 64
    go r =
        by_bool (m n)
        (λ e. by_bool (ltb (count m n) 64)
        (λ t. let a : count (first m) (suc n) ≡ suc (count (first m) n) = count_more (first m) n (ap (λ b. cond b (ltb (count m n) 64) false) e ∙ t) in
        let b : count m (suc n) ≡ suc (count m n) = count_more m n e in
        let l : count m n < 64 = ltb→lt (count m n) 64 (subst T (sym t) tt) in
        omega arith)
        (λ t. let a : count (first m) (suc n) ≡ count (first m) n = count_past (first m) n (ap (λ b. cond b (ltb (count m n) 64) false) e ∙ t) in
        let b : count m (suc n) ≡ suc (count m n) = count_more m n e in
        let l : 64 ≤ count m n = nltb→le (count m n) 64 (subst (λ b. T (not b)) (sym t) tt) in
        omega arith))
        (λ e. let a : count (first m) (suc n) ≡ count (first m) n = count_past (first m) n (ap (λ b. cond b (ltb (count m n) 64) false) e) in
        let b : count m (suc n) ≡ count m n = count_past m n e in
        omega arith)

-- the elements with another at one place
changed : (ℕ → Byte) → ℕ → Byte → ℕ → Byte
changed B p b k = elim (ℕ_discrete k p) [ yes e ↦ b | no n ↦ B k ]

changed_at : (B : ℕ → Byte) (p : ℕ) (b : Byte) → changed B p b p ≡ b
unfolding changed
changed_at B p b = go (ℕ_discrete p p)
  where
    go : (d : Dec (p ≡ p)) → (elim d as (λ _. Byte) [ yes e ↦ b | no n ↦ B p ]) ≡ b
    go (yes e) = refl
    go (no n) = absurd (n refl)

changed_off : (B : ℕ → Byte) (p : ℕ) (b : Byte) (k : ℕ) → ¬ (k ≡ p) → changed B p b k ≡ B k
unfolding changed
changed_off B p b k h = go (ℕ_discrete k p)
  where
    go : (d : Dec (k ≡ p)) → (elim d as (λ _. Byte) [ yes e ↦ b | no n ↦ B k ]) ≡ B k
    go (yes e) = absurd (h e)
    go (no n) = refl

pub two_agree : (known : List Bool) (row : List ℕ) → IsRow 255 row → 64 < missing_count known → TwoAre (Agrees Codeword known row)
two_agree known row is many = record {
  one = word (0, lit< tt);
  other = word (1, lit< tt);
  one_is = right (0, lit< tt);
  other_is = right (1, lit< tt);
  differ = λ e. absurd (omega (arith, sym (there (0, lit< tt)) ∙ ap (λ c. byte c p) e ∙ there (1, lit< tt)));
}
  where
    m : ℕ → Bool
    m = missing known

    -- the place of the 65th missing byte, which can be chosen freely
    p : ℕ
    p = place m 255 64

    p_is : (p < 255) × (m p ≡ true) × (count m p ≡ 64)
    p_is = place_is m 255 64 many

    p_out : first m p ≡ false
    p_out = ap₂ (λ b x. cond b (ltb x 64) false) p_is.1 p_is.2

    row_with : Byte → ℕ → Byte
    row_with b = changed (cell row is.bytes) p b

    word : Byte → List ℕ
    word b = listed (fill GF locator (row_with b) (first m) 255)

    there : (b : Byte) → byte (word b) p ≡ number b
    there b =
        listed_at (fill GF locator (row_with b) (first m) 255) p p_is.0
        ∙ ap number (fill_known GF locator (row_with b) (first m) 255 p p_out ∙ changed_at (cell row is.bytes) p b)

    right : (b : Byte) → Agrees Codeword known row (word b)
    right b =
        some_agrees known row (row_with b) (first m) is (omega (arith, first_count m 255))
        (λ k l here. let f : m k ≡ false = ap not here in (
          ap (λ b. cond b (ltb (count m k) 64) false) f,
          ap number (changed_off (cell row is.bytes) p b k (λ e. true≢false (sym p_is.1 ∙ ap m (sym e) ∙ f))),
        ))
