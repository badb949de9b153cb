-- Lists of datagrams by rising address: how one grows, when two are one, and that datagrams laid end to end make one.
use Rattle.std.proofs.Common.{◌≡◌, ℕ, zero, suc, ◌+◌, ◌<◌, ◌≤◌, ◌⊎◌, ◌↔◌, inl, inr, ⊎_elim, List, [], ◌∷◌, ◌++◌, length, refl, sym, ap, ap₂, ◌∙◌, subst, length-append, arith}
use Rattle.std.specs.List.{Contains, concat}
use Rattle.std.proofs.lemmas.List.Elements.{Contains-push_cases}
use Rattle.frame.specs.Frames.{placed_from}
use Rattle.reading.specs.Reading.{Placed}
use Rattle.ledger.specs.Law.{Rising}

-- the members of a list, one by one
module _ {X : Type 0} where
  none_within : (x : X) → Contains [] x → ⊥
  none_within x (k, below, is) = omega arith

  within_head : (x : X) (xs : List X) → Contains (x ∷ xs) x
  within_head x xs = (0, omega arith, refl)

  within_tail : (x : X) (xs : List X) (y : X) → Contains xs y → Contains (x ∷ xs) y
  within_tail x xs y (k, below, is) = (suc k, omega arith, is)

  within_cases : (x : X) (xs : List X) (y : X) → Contains (x ∷ xs) y → (x ≡ y) ⊎ Contains xs y
  within_cases x xs y (zero, below, is) = inl is
  within_cases x xs y (suc k, below, is) = inr (k, omega arith, is)

-- ---- rising lists

pub rising_push : (xs : List Placed) (x : Placed) → Rising xs → ((y : Placed) → Contains xs y → y.0 < x.0) → Rising (xs ++ (x ∷ []))
rising_push [] x rising below = (λ y within. absurd (none_within y within), tt)
rising_push (z ∷ xs) x rising below = (
  λ y within. ⊎_elim (rising.0 y) (λ is. subst (λ (w : Placed). z.0 < w.0) is (below z (within_head z xs))) (Contains-push_cases xs x y within),
  rising_push xs x rising.1 (λ y within. below y (within_tail z xs y within)),
)

-- two rising lists with the same members have one first
first_same : (x y : Placed) (xs ys : List Placed) → Rising (x ∷ xs) → Rising (y ∷ ys) → Contains (y ∷ ys) x → Contains (x ∷ xs) y → x ≡ y
first_same x y xs ys rising also x_there y_there = by_cases (within_cases y ys x x_there) (within_cases x xs y y_there)
  where
    by_cases : (y ≡ x) ⊎ Contains ys x → (x ≡ y) ⊎ Contains xs y → x ≡ y
    by_cases (inl is) there = sym is
    by_cases (inr later) (inl is) = is
    by_cases (inr x_later) (inr y_later) = absurd (omega (arith, also.0 x x_later, rising.0 y y_later))

-- and behind it the same members
rest_within : (x y : Placed) (xs ys : List Placed) → x ≡ y → Rising (x ∷ xs) → ((z : Placed) → Contains (x ∷ xs) z → Contains (y ∷ ys) z)
    → (z : Placed) → Contains xs z → Contains ys z
rest_within x y xs ys first rising to z within =
    ⊎_elim (λ is. absurd (omega (arith, ap (λ (w : Placed). w.0) (first ∙ is), rising.0 z within))) (λ rest. rest)
    (within_cases y ys z (to z (within_tail x xs z within)))

pub rising_same : (xs ys : List Placed) → Rising xs → Rising ys → ((x : Placed) → Contains xs x ↔ Contains ys x) → xs ≡ ys
rising_same [] [] rising also same = refl
rising_same [] (y ∷ ys) rising also same = absurd (none_within y ((same y).1 (within_head y ys)))
rising_same (x ∷ xs) [] rising also same = absurd (none_within x ((same x).0 (within_head x xs)))
rising_same (x ∷ xs) (y ∷ ys) rising also same =
    let first = first_same x y xs ys rising also ((same x).0 (within_head x xs)) ((same y).1 (within_head y ys)) in
    ap₂ (λ z zs. z ∷ zs) first (rising_same xs ys rising.1 also.1 (λ z. (
      rest_within x y xs ys first rising (λ w. (same w).0) z,
      rest_within y x ys xs (sym first) also (λ w. (same w).1) z,
    )))

-- ---- datagrams laid end to end, the first at a

-- each is one of them, and none begins below a
pub placed_at : (ds : List (List ℕ)) (a : ℕ) (x : Placed) → Contains (placed_from a ds) x → (a ≤ x.0) × Contains ds x.1
placed_at [] a x within = absurd (none_within x within)
placed_at (d ∷ ds) a x within =
    ⊎_elim
    (λ is. (omega (arith, ap (λ (w : Placed). w.0) is), subst (Contains (d ∷ ds)) (ap (λ (w : Placed). w.1) is) (within_head d ds)))
    (λ later. let rest = placed_at ds (a + length d) x later in (omega (arith, rest.0), within_tail d ds x.1 rest.1))
    (within_cases (a, d) (placed_from (a + length d) ds) x within)

pub placed_rising : (a : ℕ) (ds : List (List ℕ)) → ((d : List ℕ) → Contains ds d → 1 ≤ length d) → Rising (placed_from a ds)
placed_rising a [] some = tt
placed_rising a (d ∷ ds) some = (
  λ x within. omega (arith, some d (within_head d ds), (placed_at ds (a + length d) x within).0),
  placed_rising (a + length d) ds (λ e within. some e (within_tail d ds e within)),
)

pub placed_first : (a : ℕ) (ds : List (List ℕ)) → (ds ≡ [] → ⊥) → (d : List ℕ) × Contains (placed_from a ds) (a, d)
placed_first a [] some = absurd (some refl)
placed_first a (d ∷ ds) some = (d, within_head (a, d) (placed_from (a + length d) ds))

-- of two of them one ends before the other begins, or they are one
abbrev Apart : Placed → Placed → Type 0
Apart x y = (x.0 + length x.1 ≤ y.0) ⊎ ((y.0 + length y.1 ≤ x.0) ⊎ (x ≡ y))

first_before : (d : List ℕ) (ds : List (List ℕ)) (a : ℕ) (x y : Placed) → (a, d) ≡ x → Contains (placed_from (a + length d) ds) y → x.0 + length x.1 ≤ y.0
first_before d ds a x y is later = subst (λ (w : Placed). w.0 + length w.1 ≤ y.0) is (placed_at ds (a + length d) y later).0

placed_apart : (ds : List (List ℕ)) (a : ℕ) (x y : Placed) → Contains (placed_from a ds) x → Contains (placed_from a ds) y → Apart x y
placed_apart [] a x y here there = absurd (none_within x here)
placed_apart (d ∷ ds) a x y here there =
    let x_cases = within_cases (a, d) (placed_from (a + length d) ds) x here in
    let y_cases = within_cases (a, d) (placed_from (a + length d) ds) y there in
    elim x_cases [
      | inl x_is ↦ elim y_cases [ inl y_is ↦ inr (inr (sym x_is ∙ y_is)) | inr later ↦ inl (first_before d ds a x y x_is later) ]
      | inr x_later ↦ elim y_cases [ inl y_is ↦ inr (inl (first_before d ds a y x y_is x_later)) | inr y_later ↦ placed_apart ds (a + length d) x y x_later y_later ]
    ]

-- so one that begins before another ends before it
pub placed_before : (ds : List (List ℕ)) (a : ℕ) (x y : Placed) → Contains (placed_from a ds) x → Contains (placed_from a ds) y → x.0 < y.0 → x.0 + length x.1 ≤ y.0
placed_before ds a x y here there less =
    elim (placed_apart ds a x y here there) [
      | inl before ↦ before
      | inr (inl after) ↦ absurd (omega arith)
      | inr (inr is) ↦ absurd (omega (arith, ap (λ (w : Placed). w.0) is))
    ]

-- and one that begins within another is that other
pub placed_same : (ds : List (List ℕ)) (a : ℕ) (x y : Placed) → Contains (placed_from a ds) x → Contains (placed_from a ds) y
    → x.0 ≤ y.0 → y.0 < x.0 + length x.1 → 1 ≤ length y.1 → x ≡ y
placed_same ds a x y here there low high some =
    elim (placed_apart ds a x y here there) [
      | inl before ↦ absurd (omega arith)
      | inr (inl after) ↦ absurd (omega arith)
      | inr (inr is) ↦ is
    ]

-- what stands behind a place: nothing more, or the next of them
abbrev pub Behind : (ds : List (List ℕ)) → (a place : ℕ) → Type 0
Behind ds a place = (place ≡ a + length (concat ds)) ⊎ ((d : List ℕ) × Contains (placed_from a ds) (place, d))

behind_first : (d : List ℕ) (ds : List (List ℕ)) (a : ℕ) → Behind (d ∷ ds) a (a + length d)
behind_first d [] a = inl (omega (arith, length-append d []))
behind_first d (e ∷ ds) a = inr (e, within_tail (a, d) (placed_from (a + length d) (e ∷ ds)) _ (within_head _ _))

pub placed_behind : (ds : List (List ℕ)) (a : ℕ) (x : Placed) → Contains (placed_from a ds) x → Behind ds a (x.0 + length x.1)
placed_behind [] a x within = absurd (none_within x within)
placed_behind (d ∷ ds) a x within =
    elim (within_cases (a, d) (placed_from (a + length d) ds) x within) [
      | inl is ↦ subst (λ (w : Placed). Behind (d ∷ ds) a (w.0 + length w.1)) is (behind_first d ds a)
      | inr later ↦ elim (placed_behind ds (a + length d) x later) [
        | inl end ↦ inl (omega (arith, end, length-append d (concat ds)))
        | inr next ↦ inr (next.0, within_tail (a, d) (placed_from (a + length d) ds) _ next.1)
      ]
    ]
