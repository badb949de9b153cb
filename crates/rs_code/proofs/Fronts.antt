-- Any 191 bytes begin just one codeword.
use Rattle.std.proofs.Common.{◌≡◌, ℕ, zero, suc, ◌<◌, ◌≤◌, Bool, true, false, cond, not, leb, ltb, List, map, length, take, sym, refl, ap, ◌∙◌, ap₂, arith}
use native.Mathlib.Decide.{dec_lt}
use Rattle.std.proofs.lemmas.List.{ext_get_or, get_or-take, length-take-le}
use Rattle.std.specs.List.{range_with_len}
use Rattle.std.proofs.lemmas.List.FromFn.{get_or-map-range_with_len}
use Rattle.std.proofs.lemmas.Bool.{true≢false, le-leb, lt-leb, lt-ltb, le-ltb}
use Rattle.octets.specs.Octets.{byte}
use Rattle.rowcode.specs.Rows.{IsRow, is_known, Agrees, Begins, OnlyIs}
use Rattle.rs_code.specs.Codewords.{Codeword}
use Rattle.rs_code.specs.Counts.{count, missing, missing_count, IsFront}
use Rattle.rs_code.proofs.Words.{cell, listed, listed_at, listed_row}
use Rattle.rs_code.proofs.Completions.{just_one}

-- ---- 64 bytes are not known then

count_same : (m m' : ℕ → Bool) (n : ℕ) → ((k : ℕ) → k < n → m k ≡ m' k) → count m n ≡ count m' n
unfolding count
count_same m m' zero h = refl
count_same m m' (suc n) h = ap₂ (λ b (x : ℕ). cond b (suc x) x) (h n (omega arith)) (count_same m m' n (λ k l. h k (omega arith)))

last_count : count (leb 191) 255 ≡ 64
unfolding count
last_count = refl

pub front_count : (known : List Bool) → IsFront known → missing_count known ≡ 64
front_count known h = count_same (missing known) (leb 191) 255 (λ k l. pick k l (dec_lt k 191)) ∙ last_count
  where
    pick : (k : ℕ) → k < 255 → Dec (k < 191) → missing known k ≡ leb 191 k
    pick k l (yes p) = ap not (h.given k p) ∙ sym (lt-leb 191 k p)
    pick k l (no n) = let q : 191 ≤ k = omega (arith, n) in ap not (h.rest k q l) ∙ sym (le-leb 191 k q)

-- ---- to agree with the known bytes is to begin with them

pub to_agrees : (known : List Bool) (row word : List ℕ) → IsFront known → length row ≡ 255 → Begins Codeword row word → Agrees Codeword known row word
to_agrees known row word h wide p = record {
  is_codeword = p.is_codeword;
  same = λ i l here. pick i (omega (arith, wide)) here (dec_lt i 191);
}
  where
    pick : (i : ℕ) → i < 255 → is_known known i ≡ true → Dec (i < 191) → byte word i ≡ byte row i
    pick i l here (yes q) = sym (get_or-take 191 word i 0 q) ∙ ap (λ xs. byte xs i) p.same ∙ get_or-take 191 row i 0 q
    pick i l here (no n) = absurd (true≢false (sym here ∙ h.rest i (omega (arith, n)) l))

pub to_begins : (known : List Bool) (row word : List ℕ) → IsFront known → length row ≡ 255 → Agrees Codeword known row word → Begins Codeword row word
to_begins known row word h wide p = record {
  is_codeword = p.is_codeword;
  same =
      let one : length (take 191 word) ≡ 191 = length-take-le 191 word (omega (arith, p.is_codeword.is_row.width_is)) in
      let other : length (take 191 row) ≡ 191 = length-take-le 191 row (omega (arith, wide)) in
      ext_get_or 0 (take 191 word) (take 191 row) (one ∙ sym other)
      (λ i l. let q : i < 191 = omega (arith, one) in
      get_or-take 191 word i 0 q ∙ p.same i (omega (arith, wide)) (h.given i q) ∙ sym (get_or-take 191 row i 0 q));
}

pub just_one_begins : (known : List Bool) (row : List ℕ) → IsFront known → IsRow 255 row → (word : List ℕ) × OnlyIs (Begins Codeword row) word
just_one_begins known row h is =
    let one : (word : List ℕ) × OnlyIs (Agrees Codeword known row) word = just_one known row is (front_count known h) in (
      one.0,
      record {
        is = to_begins known row one.0 h is.width_is one.1.is;
        only = λ v p. one.1.only v (to_agrees known row v h is.width_is p);
      },
    )

-- ---- 191 bytes, with zeros behind them

fronts : List Bool
fronts = map (λ k. ltb k 191) (range_with_len 0 255)

fronts_are : IsFront fronts
unfolding fronts
fronts_are = record {
  given = λ k l. get_or-map-range_with_len (λ k. ltb k 191) 0 255 k k false (omega arith) (omega arith) ∙ lt-ltb k 191 l;
  rest = λ k l h. get_or-map-range_with_len (λ k. ltb k 191) 0 255 k k false h (omega arith) ∙ le-ltb k 191 l;
}

filled_up : (front : List ℕ) → IsRow 191 front → List ℕ
filled_up front is = listed (cell front is.bytes)

filled_up_row : (front : List ℕ) (is : IsRow 191 front) → IsRow 255 (filled_up front is)
unfolding filled_up
filled_up_row front is = listed_row (cell front is.bytes)

filled_up_front : (front : List ℕ) (is : IsRow 191 front) → take 191 (filled_up front is) ≡ take 191 front
unfolding filled_up
filled_up_front front is =
    let row : List ℕ = listed (cell front is.bytes) in
    let one : length (take 191 row) ≡ 191 = length-take-le 191 row (omega (arith, (listed_row (cell front is.bytes)).width_is)) in
    let other : length (take 191 front) ≡ 191 = length-take-le 191 front (omega (arith, is.width_is)) in
    ext_get_or 0 (take 191 row) (take 191 front) (one ∙ sym other)
    (λ i l. let q : i < 191 = omega (arith, one) in
    get_or-take 191 row i 0 q ∙ listed_at (cell front is.bytes) i (omega arith) ∙ sym (get_or-take 191 front i 0 q))

pub any_begins : (front : List ℕ) → IsRow 191 front → (word : List ℕ) × OnlyIs (Begins Codeword front) word
any_begins front is =
    let row : List ℕ = filled_up front is in
    let same : take 191 row ≡ take 191 front = filled_up_front front is in
    let one : (word : List ℕ) × OnlyIs (Begins Codeword row) word = just_one_begins fronts row fronts_are (filled_up_row front is) in (
      one.0,
      record {
        is = record { is_codeword = one.1.is.is_codeword; same = one.1.is.same ∙ same };
        only = λ v p. one.1.only v (record { is_codeword = p.is_codeword; same = p.same ∙ sym same });
      },
    )
