-- The places that a test marks, counted from the left.
use mathlib.Core.Path.{◌≡◌, refl, sym, ap, subst}
use mathlib.Core.Bool.{Bool, true, false, cond}
use Prim.Native.Nat.{ℕ, zero, suc, ◌<◌, ◌≤◌}
use native.Mathlib.Decide.{ℕ_discrete, dec_lt}
use native.Mathlib.Omega.{arith}
use Rattle.rs_code.specs.Counts.{count}

pub count_none : (m : ℕ → Bool) → count m 0 ≡ 0
unfolding count
count_none m = refl

pub count_past : (m : ℕ → Bool) (n : ℕ) → m n ≡ false → count m (suc n) ≡ count m n
unfolding count
count_past m n e = ap (λ b. cond b (suc (count m n)) (count m n)) e

pub count_more : (m : ℕ → Bool) (n : ℕ) → m n ≡ true → count m (suc n) ≡ suc (count m n)
unfolding count
count_more m n e = ap (λ b. cond b (suc (count m n)) (count m n)) e

-- a Bool by cases, with the equation
pub by_bool : {A : Type 0} (b : Bool) → (b ≡ true → A) → (b ≡ false → A) → A
by_bool true f g = f refl
by_bool false f g = g refl

pub count_step : (m : ℕ → Bool) (n : ℕ) → count m n ≤ count m (suc n)
count_step m n =
    by_bool (m n) (λ e. let p : count m (suc n) ≡ suc (count m n) = count_more m n e in omega arith)
    (λ e. let p : count m (suc n) ≡ count m n = count_past m n e in omega arith)

pub count_mono : (m : ℕ → Bool) (k n : ℕ) → k ≤ n → count m k ≤ count m n
count_mono m k zero h = let e : k ≡ 0 = omega arith in subst (λ (x : ℕ). count m x ≤ count m 0) (sym e) (omega arith)
count_mono m k (suc n) h = pick (ℕ_discrete k (suc n)) (count_mono m k n)
  where
    pick : Dec (k ≡ suc n) → (k ≤ n → count m k ≤ count m n) → count m k ≤ count m (suc n)
    pick (yes e) r = subst (λ (x : ℕ). count m x ≤ count m (suc n)) (sym e) (omega arith)
    pick (no d) r = let a : count m k ≤ count m n = r (omega (arith, d)) in omega (arith, count_step m n)

pub count_lt : (m : ℕ → Bool) (k n : ℕ) → k < n → m k ≡ true → count m k < count m n
count_lt m k n l e =
    let p : count m (suc k) ≡ suc (count m k) = count_more m k e in
    let q : count m (suc k) ≤ count m n = count_mono m (suc k) n l in
    omega arith

pub count_le : (m : ℕ → Bool) (n : ℕ) → count m n ≤ n
count_le m zero = let e : count m 0 ≡ 0 = count_none m in omega arith
count_le m (suc n) =
    let r : count m n ≤ n = count_le m n in
    by_bool (m n) (λ e. let p : count m (suc n) ≡ suc (count m n) = count_more m n e in omega arith)
    (λ e. let p : count m (suc n) ≡ count m n = count_past m n e in omega arith)

-- two marked places with one count are one place
pub count_inj : (m : ℕ → Bool) (k l : ℕ) → m k ≡ true → m l ≡ true → count m k ≡ count m l → k ≡ l
count_inj m k l ek el e = pick (ℕ_discrete k l) (dec_lt k l)
  where
    pick : Dec (k ≡ l) → Dec (k < l) → k ≡ l
    pick (yes p) d = p
    pick (no p) (yes q) = absurd (omega (arith, e, count_lt m k l q ek))
    pick (no p) (no q) = let r : l < k = omega (arith, p, q) in absurd (omega (arith, e, count_lt m l k r el))

-- the marked place with the count u
pub record Marked (m : ℕ → Bool) (n u : ℕ) : Type 0 where
  pub at : ℕ
  pub below : at < n
  pub marked : m at ≡ true
  pub counts : count m at ≡ u

pub find : (m : ℕ → Bool) (n u : ℕ) → u < count m n → Marked m n u
find m zero u h = let e : count m 0 ≡ 0 = count_none m in absurd (omega arith)
find m (suc n) u h = pick (dec_lt u (count m n)) (find m n u)
  where
    last : ¬ (u < count m n) → m n ≡ true → Marked m (suc n) u
    last d e =
        let p : count m (suc n) ≡ suc (count m n) = count_more m n e in
        record { at = n; below = omega arith; marked = e; counts = omega (arith, d) }

    pick : Dec (u < count m n) → (u < count m n → Marked m n u) → Marked m (suc n) u
    pick (yes l) r =
        let f : Marked m n u = r l in
        record { at = f.at; below = omega (arith, f.below); marked = f.marked; counts = f.counts }
    pick (no d) r =
        by_bool (m n) (last d)
        (λ e. let p : count m (suc n) ≡ count m n = count_past m n e in absurd (omega (arith, d)))

pub place : (m : ℕ → Bool) (n u : ℕ) → ℕ
place m n u = elim (dec_lt u (count m n)) [ yes h ↦ (find m n u h).at | no d ↦ 0 ]

pub place_is : (m : ℕ → Bool) (n u : ℕ) → u < count m n → (place m n u < n) × (m (place m n u) ≡ true) × (count m (place m n u) ≡ u)
unfolding place
place_is m n u h = go (dec_lt u (count m n))
  where
    go : (d : Dec (u < count m n))
        → let k : ℕ = (elim d as (λ _. ℕ) [ yes h ↦ (find m n u h).at | no d ↦ 0 ]) in (k < n) × (m k ≡ true) × (count m k ≡ u)
    go (yes l) = ((find m n u l).below, (find m n u l).marked, (find m n u l).counts)
    go (no d) = absurd (d h)

pub place_count : (m : ℕ → Bool) (n k : ℕ) → k < n → m k ≡ true → place m n (count m k) ≡ k
place_count m n k l e =
    let p : (place m n (count m k) < n) × (m (place m n (count m k)) ≡ true) × (count m (place m n (count m k)) ≡ count m k)
    = place_is m n (count m k) (count_lt m k n l e) in
    count_inj m (place m n (count m k)) k p.1 e p.2
