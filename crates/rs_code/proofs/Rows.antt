-- Rows of field elements, each place with its locator, and their moments. Where no more places are missing than moments are
-- given, at most one row has these moments; with as many, some row has them.
use mathlib.Core.Path.{◌≡◌, sym, ap, ap₂, ◌∙◌}
use mathlib.Core.Bool.{Bool, true, false, cond}
use Prim.Native.Nat.{ℕ, zero, suc, ◌<◌, ◌≤◌}
use native.Mathlib.Decide.{dec_lt}
use native.Mathlib.Omega.{arith}
use Rattle.rs_code.specs.Counts.{count}
use Rattle.rs_code.proofs.Places.{count_past, count_more, count_none, count_mono, count_lt, by_bool, place, place_is, place_count}
use Rattle.gf256.proofs.Field.{Field}
use Rattle.gf256.proofs.Field as field
use Rattle.gf256.proofs.Vandermonde.{Apart, moment, moment_same, unique, solve, solved}
use Rattle.gf256.proofs.Vandermonde as vander

module _ (F : Field) where
  open F use {E, add, mul, 𝟘, 𝟙, inv}

  -- a sum of what is 0 at the places not marked is the sum over the marked ones
  gather : (f g : ℕ → E) (m : ℕ → Bool) (n : ℕ)
      → ((k : ℕ) → k < n → m k ≡ false → f k ≡ 𝟘) → ((k : ℕ) → k < n → m k ≡ true → g (count m k) ≡ f k)
      → field.sum F f n ≡ field.sum F g (count m n)
  gather f g m zero hf hg = field.sum_none F f ∙ sym (field.sum_none F g) ∙ ap (field.sum F g) (sym (count_none m))
  gather f g m (suc n) hf hg = step (gather f g m n (λ k l. hf k (omega arith)) (λ k l. hg k (omega arith)))
    where
      step : field.sum F f n ≡ field.sum F g (count m n) → field.sum F f (suc n) ≡ field.sum F g (count m (suc n))
      step e =
          field.sum_suc F f n
          ∙ by_bool (m n)
          (λ b. ap₂ add e (sym (hg n (omega arith) b)) ∙ sym (field.sum_suc F g (count m n)) ∙ ap (field.sum F g) (sym (count_more m n b)))
          (λ b. ap₂ add e (hf n (omega arith) b) ∙ F.add_zero (field.sum F g (count m n)) ∙ ap (field.sum F g) (sym (count_past m n b)))

  pub gather_moment : (W R X Y : ℕ → E) (m : ℕ → Bool) (n j : ℕ)
      → ((k : ℕ) → k < n → m k ≡ false → R k ≡ 𝟘)
      → ((k : ℕ) → k < n → m k ≡ true → X (count m k) ≡ W k)
      → ((k : ℕ) → k < n → m k ≡ true → Y (count m k) ≡ R k)
      → moment F W R n j ≡ moment F X Y (count m n) j
  gather_moment W R X Y m n j h0 hx hy =
      vander.moment_is F W R n j
      ∙ gather (λ k. mul (R k) (field.pow F (W k) j)) (λ u. mul (Y u) (field.pow F (X u) j)) m n
      (λ k l b. ap (λ x. mul x (field.pow F (W k) j)) (h0 k l b) ∙ field.zero_mul F (field.pow F (W k) j))
      (λ k l b. ap₂ (λ y x. mul y (field.pow F x j)) (hy k l b) (hx k l b))
      ∙ sym (vander.moment_is F X Y (count m n) j)

  pub apart_places : (W : ℕ → E) (m : ℕ → Bool) (n : ℕ) → Apart F W n → Apart F (λ u. W (place m n u)) (count m n)
  apart_places W m n d u v l h =
      let hu : u < count m n = omega arith in
      let p : (place m n u < n) × (m (place m n u) ≡ true) × (count m (place m n u) ≡ u) = place_is m n u hu in
      let q : (place m n v < n) × (m (place m n v) ≡ true) × (count m (place m n v) ≡ v) = place_is m n v h in
      d (place m n u) (place m n v) (order p q (dec_lt (place m n u) (place m n v))) q.0
    where
      order : (place m n u < n) × (m (place m n u) ≡ true) × (count m (place m n u) ≡ u)
          → (place m n v < n) × (m (place m n v) ≡ true) × (count m (place m n v) ≡ v)
          → Dec (place m n u < place m n v) → place m n u < place m n v
      order p q (yes r) = r
      order p q (no r) =
          let s : place m n v ≤ place m n u = omega (arith, r) in
          absurd (omega (arith, count_mono m (place m n v) (place m n u) s, p.2, q.2))

  -- the moments of a row whose marked places are given by values of their own
  pub filled_moment : (W R Z X Y : ℕ → E) (m : ℕ → Bool) (n j : ℕ)
      → ((k : ℕ) → k < n → m k ≡ false → R k ≡ Z k)
      → ((k : ℕ) → k < n → m k ≡ true → Z k ≡ 𝟘)
      → ((k : ℕ) → k < n → m k ≡ true → X (count m k) ≡ W k)
      → ((k : ℕ) → k < n → m k ≡ true → Y (count m k) ≡ R k)
      → moment F W R n j ≡ add (moment F W Z n j) (moment F X Y (count m n) j)
  filled_moment W R Z X Y m n j hk hz hx hy =
      moment_same F W R (λ k. add (Z k) (add (Z k) (R k))) n j (λ k l. sym (field.add_twice F (Z k) (R k)))
      ∙ vander.moment_add F W Z (λ k. add (Z k) (R k)) n j
      ∙ ap (add (moment F W Z n j))
      (gather_moment W (λ k. add (Z k) (R k)) X Y m n j
      (λ k l b. ap (add (Z k)) (hk k l b) ∙ F.add_self (Z k)) hx
      (λ k l b. hy k l b ∙ sym (ap (λ z. add z (R k)) (hz k l b) ∙ field.zero_add F (R k))))

  -- ---- at most one row

  pub at_most_one : (W R R' : ℕ → E) (m : ℕ → Bool) (n : ℕ) → Apart F W n
      → ((k : ℕ) → k < n → m k ≡ false → R k ≡ R' k)
      → ((j : ℕ) → j < count m n → moment F W R n j ≡ moment F W R' n j)
      → (k : ℕ) → k < n → R k ≡ R' k
  at_most_one W R R' m n d hk hm k l = by_bool (m k) marked (hk k l)
    where
      D : ℕ → E
      D i = add (R i) (R' i)

      X : ℕ → E
      X u = W (place m n u)

      Y : ℕ → E
      Y u = D (place m n u)

      none : (j : ℕ) → j < count m n → moment F X Y (count m n) j ≡ 𝟘
      none j h =
          sym (gather_moment W D X Y m n j
          (λ i p b. ap (λ z. add z (R' i)) (hk i p b) ∙ F.add_self (R' i))
          (λ i p b. ap W (place_count m n i p b)) (λ i p b. ap D (place_count m n i p b)))
          ∙ vander.moment_add F W R R' n j ∙ ap (λ z. add z (moment F W R' n j)) (hm j h) ∙ F.add_self (moment F W R' n j)

      marked : m k ≡ true → R k ≡ R' k
      marked b =
          field.eq_of_add F (R k) (R' k)
          (sym (ap D (place_count m n k l b))
          ∙ unique F (count m n) X Y (apart_places W m n d) none (count m k) (count_lt m k n l b))

  -- ---- some row

  -- the row B with its marked places filled
  pub fill : (W B : ℕ → E) (m : ℕ → Bool) (n : ℕ) → ℕ → E
  fill W B m n k =
      cond (m k) (solve F (count m n) (λ u. W (place m n u)) (moment F W (λ i. cond (m i) 𝟘 (B i)) n) (count m k)) (B k)

  pub fill_known : (W B : ℕ → E) (m : ℕ → Bool) (n k : ℕ) → m k ≡ false → fill W B m n k ≡ B k
  unfolding fill
  fill_known W B m n k e =
      ap (λ b. cond b (solve F (count m n) (λ u. W (place m n u)) (moment F W (λ i. cond (m i) 𝟘 (B i)) n) (count m k)) (B k)) e

  pub fill_moment : (W B : ℕ → E) (m : ℕ → Bool) (n : ℕ) → Apart F W n → (j : ℕ) → j < count m n → moment F W (fill W B m n) n j ≡ 𝟘
  unfolding fill
  fill_moment W B m n d j h =
      filled_moment W (fill W B m n) Z X (solve F (count m n) X (moment F W Z n)) m n j
      (λ k l b. fill_known W B m n k b ∙ sym (ap (λ c. cond c 𝟘 (B k)) b))
      (λ k l b. ap (λ c. cond c 𝟘 (B k)) b)
      (λ k l b. ap W (place_count m n k l b))
      (λ k l b. sym (ap (λ c. cond c (solve F (count m n) X (moment F W Z n) (count m k)) (B k)) b))
      ∙ ap (add (moment F W Z n j)) (solved F (count m n) X (moment F W Z n) (apart_places W m n d) j h)
      ∙ F.add_self (moment F W Z n j)
    where
      Z : ℕ → E
      Z i = cond (m i) 𝟘 (B i)

      X : ℕ → E
      X u = W (place m n u)
