-- The powers of 2, by tests that the checker computes: each byte but 0 is one of the first 255, which all differ, and the next is 1.
use Rattle.std.proofs.Common.{◌≡◌, ℕ, zero, suc, ◌+◌, ◌<◌, Bool, true, false, List, [], ◌∷◌, get_or, T, eqb, eqb→eq, ltb, ltb→lt, refl, sym, ap, ◌∙◌, arith}
use native.Mathlib.Nat.{add-zero, zero-add, add-suc, suc-add, le_of_suc-le-suc, not-suc-le-zero}
use Rattle.gf256.specs.Sums.{field_sum}
use Rattle.gf256.specs.Products.{polynomial_product, remainder_below, times, power}
use Rattle.octets.proofs.EachByte.{all_below, at_each}

-- p, 2 p, 4 p and so on, n of them
unfoldable pub doublings : ℕ → ℕ → List ℕ
doublings zero p = []
doublings (suc n) p = p ∷ doublings n (times 2 p)

-- from the power i on, they are the next powers
pub doublings_at : (n i k : ℕ) → k < n → get_or (doublings n (power 2 i)) k 0 ≡ power 2 (i + k)
unfolding doublings power
doublings_at zero i k h = absurd (not-suc-le-zero h)
doublings_at (suc n) i zero h = ap (power 2) (sym (add-zero i))
doublings_at (suc n) i (suc k) h = doublings_at n (suc i) k (le_of_suc-le-suc h) ∙ ap (power 2) (suc-add i k ∙ sym (add-suc i k))

-- the powers below 255
unfoldable pub powers : List ℕ
powers = doublings 255 (power 2 0)

-- entry k is the power k
pub powers_at : (k : ℕ) → k < 255 → get_or powers k 0 ≡ power 2 k
unfolding powers
powers_at k h = doublings_at 255 0 k h ∙ ap (power 2) (zero-add k)

-- where a stands first
unfoldable pub place : List ℕ → ℕ → ℕ
place [] a = 0
place (x ∷ xs) a = elim (eqb x a) [ true ↦ 0 | false ↦ suc (place xs a) ]

-- the power that an element is
unfoldable pub log : ℕ → ℕ
log a = place powers a

-- each byte but 0 has its place below 255
abbrev places_below : List ℕ → Bool
places_below xs = all_below (λ a. ltb (place xs (suc a)) 255) 255

powers_below : T (places_below powers)
unfolding place powers doublings power field_sum polynomial_product remainder_below times
powers_below = tt

-- and stands there
abbrev places_right : List ℕ → Bool
places_right xs = all_below (λ a. eqb (get_or xs (place xs (suc a)) 0) (suc a)) 255

powers_right : T (places_right powers)
unfolding place powers doublings power field_sum polynomial_product remainder_below times
powers_right = tt

-- the power that an element is lies below 255
pub log_lt : (a : ℕ) → 0 < a → a < 256 → log a < 255
unfolding log
log_lt zero p h = absurd (not-suc-le-zero p)
log_lt (suc a) p h = ltb→lt _ _ (at_each (λ a. ltb (place powers (suc a)) 255) 255 powers_below a (omega arith))

-- and 2 to it is the element
pub power_log : (a : ℕ) → 0 < a → a < 256 → power 2 (log a) ≡ a
unfolding log
power_log zero p h = absurd (not-suc-le-zero p)
power_log (suc a) p h =
    sym (powers_at (log (suc a)) (log_lt (suc a) p h))
    ∙ eqb→eq _ _ (at_each (λ a. eqb (get_or powers (place powers (suc a)) 0) (suc a)) 255 powers_right a (omega arith))

-- each entry of the list is looked for where it stands
abbrev first_places : List ℕ → Bool
first_places xs = all_below (λ k. eqb (place xs (get_or xs k 0)) k) 255

powers_first : T (first_places powers)
unfolding place powers doublings power field_sum polynomial_product remainder_below times
powers_first = tt

log_power : (k : ℕ) → k < 255 → log (power 2 k) ≡ k
unfolding log
log_power k h = ap (place powers) (sym (powers_at k h)) ∙ eqb→eq _ _ (at_each (λ k. eqb (place powers (get_or powers k 0)) k) 255 powers_first k h)

-- the first 255 powers differ
pub powers_apart : (i j : ℕ) → i < j → j < 255 → ¬ (power 2 i ≡ power 2 j)
powers_apart i j l h e =
    let d : i ≡ j = sym (log_power i (omega arith)) ∙ ap log e ∙ log_power j h in
    absurd (omega arith)

-- and the next is 1
pub round : power 2 255 ≡ 1
unfolding power field_sum polynomial_product remainder_below times
round = refl
