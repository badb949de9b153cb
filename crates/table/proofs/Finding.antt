-- What a search along a run of numbers finds.
use Rattle.std.proofs.Common.{◌≡◌, ℕ, zero, suc, ◌+◌, ◌<◌, ◌≤◌, Bool, true, false, ◌||◌, List, length, get_or, take, drop, Some, None, refl, ap, inl, inr, arith}
use Rattle.std.specs.List.{range_with_len, list_any, find}
use Rattle.std.proofs.lemmas.Bool.{cases_eq, or_parts}
use Rattle.std.proofs.lemmas.List.{drop_more}

-- no number of the run passes
pub find_none : (p : ℕ → Bool) (a n : ℕ) → ((k : ℕ) → a ≤ k → k < a + n → p k ≡ false) → find p (range_with_len a n) ≡ None
find_none p a zero none = refl
find_none p a (suc n) none =
    rw (none a (omega arith) (omega arith)) (find_none p (a + 1) n (λ k above below. none k (omega arith) (omega arith)))

-- k passes, and none before it
pub find_first : (p : ℕ → Bool) (a n k : ℕ) → a ≤ k → k < a + n → p k ≡ true → ((j : ℕ) → a ≤ j → j < k → p j ≡ false) → find p (range_with_len a n) ≡ Some k
find_first p a zero k above below passes before = absurd (omega arith)
find_first p a (suc n) k above below passes before =
    elim (cases_eq a k) [
      | inl is ↦ rw (is, passes)
      | inr not ↦ rw (before a (omega arith) (omega (arith, not)))
          (find_first p (a + 1) n k (omega (arith, not)) (omega arith) passes (λ j more less. before j (omega arith) less))
    ]

-- two tests agree on the run
pub find_same : (p q : ℕ → Bool) (a n : ℕ) → ((k : ℕ) → a ≤ k → k < a + n → p k ≡ q k) → find p (range_with_len a n) ≡ find q (range_with_len a n)
find_same p q a zero same = refl
find_same p q a (suc n) same =
    rw (same a (omega arith) (omega arith), find_same p q (a + 1) n (λ k above below. same k (omega arith) (omega arith)))

pub any_none : (p : ℕ → Bool) (a n : ℕ) → ((k : ℕ) → a ≤ k → k < a + n → p k ≡ false) → list_any p (range_with_len a n) ≡ false
any_none p a zero none = refl
any_none p a (suc n) none =
    rw (none a (omega arith) (omega arith)) (any_none p (a + 1) n (λ k above below. none k (omega arith) (omega arith)))

-- and back: a test that none passes fails at each
pub none_from_any : (p : ℕ → Bool) (a n k : ℕ) → list_any p (range_with_len a n) ≡ false → a ≤ k → k < a + n → p k ≡ false
none_from_any p a zero k none above below = absurd (omega arith)
none_from_any p a (suc n) k none above below =
    let parts = or_parts (p a) _ none in
    elim (cases_eq a k) [
      | inl is ↦ rw is at parts.0
      | inr not ↦ none_from_any p (a + 1) n k parts.1 (omega (arith, not)) (omega arith)
    ]

-- a test along a part of a list is one of its places
pub any_slice : (p : ℕ → Bool) (xs : List ℕ) (a n : ℕ) → a + n ≤ length xs → list_any p (take n (drop a xs)) ≡ list_any (λ i. p (get_or xs i 0)) (range_with_len a n)
any_slice p xs a zero fits = refl
any_slice p xs a (suc n) fits =
    rw (drop_more xs a 0 (omega arith)) (ap (λ b. p (get_or xs a 0) || b) (any_slice p xs (a + 1) n (omega arith)))
