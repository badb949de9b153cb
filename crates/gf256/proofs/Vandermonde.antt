-- Sums of weights times powers of bases that differ: if as many of these as there are weights are 0, every weight is 0; and
-- for any such sums there are weights.
use mathlib.Core.Path.{◌≡◌, refl, sym, ap, ap₂, ◌∙◌}
use Prim.Native.Nat.{ℕ, zero, suc, ◌<◌}
use native.Mathlib.Decide.{ℕ_discrete}
use native.Mathlib.Omega.{arith}
use Rattle.gf256.proofs.Field.{Field}
use Rattle.gf256.proofs.Field as field

module _ (F : Field) where
  open F use {E, add, mul, 𝟘, 𝟙, inv}

  abbrev pub Apart : (ℕ → E) → ℕ → Type 0
  Apart X n = (i j : ℕ) → i < j → j < n → ¬ (X i ≡ X j)

  -- the sum over u below n of Y u times the j-th power of X u
  pub moment : (X Y : ℕ → E) → ℕ → ℕ → E
  moment X Y n j = field.sum F (λ u. mul (Y u) (field.pow F (X u) j)) n

  pub moment_is : (X Y : ℕ → E) (n j : ℕ) → moment X Y n j ≡ field.sum F (λ u. mul (Y u) (field.pow F (X u) j)) n
  unfolding moment
  moment_is X Y n j = refl

  pub moment_add : (X Y Z : ℕ → E) (n j : ℕ) → moment X (λ u. add (Y u) (Z u)) n j ≡ add (moment X Y n j) (moment X Z n j)
  unfolding moment
  moment_add X Y Z n j =
      field.sum_same F (λ u. mul (add (Y u) (Z u)) (field.pow F (X u) j))
      (λ u. add (mul (Y u) (field.pow F (X u) j)) (mul (Z u) (field.pow F (X u) j))) n
      (λ u l. field.add_mul F (Y u) (Z u) (field.pow F (X u) j))
      ∙ field.sum_add F (λ u. mul (Y u) (field.pow F (X u) j)) (λ u. mul (Z u) (field.pow F (X u) j)) n

  pub moment_suc : (X Y : ℕ → E) (n j : ℕ) → moment X Y (suc n) j ≡ add (moment X Y n j) (mul (Y n) (field.pow F (X n) j))
  unfolding moment
  moment_suc X Y n j = field.sum_suc F (λ u. mul (Y u) (field.pow F (X u) j)) n

  pub moment_same : (X Y Z : ℕ → E) (n j : ℕ) → ((u : ℕ) → u < n → Y u ≡ Z u) → moment X Y n j ≡ moment X Z n j
  unfolding moment
  moment_same X Y Z n j h =
      field.sum_same F (λ u. mul (Y u) (field.pow F (X u) j)) (λ u. mul (Z u) (field.pow F (X u) j)) n
      (λ u l. ap (λ y. mul y (field.pow F (X u) j)) (h u l))

  -- weights times (X u + c): the next moment and c times this one
  pub moment_step : (X Y : ℕ → E) (c : E) (n j : ℕ)
      → moment X (λ u. mul (Y u) (add (X u) c)) n j ≡ add (moment X Y n (suc j)) (mul c (moment X Y n j))
  unfolding moment
  moment_step X Y c n j =
      field.sum_same F
      (λ u. mul (mul (Y u) (add (X u) c)) (field.pow F (X u) j))
      (λ u. add (mul (Y u) (field.pow F (X u) (suc j))) (mul c (mul (Y u) (field.pow F (X u) j)))) n
      (λ u l. one (X u) (Y u) (field.pow F (X u) j) ∙ ap (λ z. add (mul (Y u) z) (mul c (mul (Y u) (field.pow F (X u) j)))) (sym (field.pow_suc F (X u) j)))
      ∙ field.sum_add F (λ u. mul (Y u) (field.pow F (X u) (suc j))) (λ u. mul c (mul (Y u) (field.pow F (X u) j))) n
      ∙ ap (add (field.sum F (λ u. mul (Y u) (field.pow F (X u) (suc j))) n)) (field.sum_mul F c (λ u. mul (Y u) (field.pow F (X u) j)) n)
    where
      one : (x y p : E) → mul (mul y (add x c)) p ≡ add (mul y (mul x p)) (mul c (mul y p))
      one x y p =
          F.mul_assoc y (add x c) p ∙ ap (mul y) (field.add_mul F x c p) ∙ F.mul_add y (mul x p) (mul c p)
          ∙ ap (add (mul y (mul x p))) (field.mul_left_comm F y c p)

  -- the last base eliminated: the next moment and the last base times this one, of all weights, are a moment of the others
  -- times what their bases differ from it by
  pub eliminated : (m : ℕ) (X Y : ℕ → E) (j : ℕ)
      → add (moment X Y (suc m) (suc j)) (mul (X m) (moment X Y (suc m) j)) ≡ moment X (λ u. mul (Y u) (add (X u) (X m))) m j
  eliminated m X Y j =
      ap₂ (λ a b. add a (mul (X m) b)) (moment_suc X Y m (suc j)) (moment_suc X Y m j)
      ∙ ap₂ (λ a b. add (add (moment X Y m (suc j)) a) b)
      (ap (mul (Y m)) (field.pow_suc F (X m) j) ∙ field.mul_left_comm F (Y m) (X m) (field.pow F (X m) j))
      (F.mul_add (X m) (moment X Y m j) p)
      ∙ field.add_four F (moment X Y m (suc j)) (mul (X m) p) (mul (X m) (moment X Y m j)) (mul (X m) p)
      ∙ ap (add (add (moment X Y m (suc j)) (mul (X m) (moment X Y m j)))) (F.add_self (mul (X m) p))
      ∙ F.add_zero (add (moment X Y m (suc j)) (mul (X m) (moment X Y m j)))
      ∙ sym (moment_step X Y (X m) m j)
    where
      p : E
      p = mul (Y m) (field.pow F (X m) j)

  -- ---- the weights are 0 where the moments are

  -- of n + 1 moments that are 0: those of the first n bases with the weights times (X u + X n) are 0
  fewer : (n : ℕ) (X Y : ℕ → E) (j : ℕ) → moment X Y (suc n) j ≡ 𝟘 → moment X Y (suc n) (suc j) ≡ 𝟘
      → moment X (λ u. mul (Y u) (add (X u) (X n))) n j ≡ 𝟘
  fewer n X Y j h k =
      sym (eliminated n X Y j) ∙ ap₂ (λ a b. add a (mul (X n) b)) k h ∙ ap (add 𝟘) (field.mul_zero F (X n)) ∙ F.add_zero 𝟘

  -- X u + X n is not 0
  differs : (n : ℕ) (X : ℕ → E) → Apart X (suc n) → (u : ℕ) → u < n → ¬ (add (X u) (X n) ≡ 𝟘)
  differs n X d u l e = d u n l (omega arith) (field.eq_of_add F (X u) (X n) e)

  moment_zero : (X Y : ℕ → E) (n j : ℕ) → ((u : ℕ) → u < n → Y u ≡ 𝟘) → moment X Y n j ≡ 𝟘
  unfolding moment
  moment_zero X Y n j h =
      field.sum_zero F (λ u. mul (Y u) (field.pow F (X u) j)) n
      (λ u l. ap (λ y. mul y (field.pow F (X u) j)) (h u l) ∙ field.zero_mul F (field.pow F (X u) j))

  pub unique : (n : ℕ) (X Y : ℕ → E) → Apart X n → ((j : ℕ) → j < n → moment X Y n j ≡ 𝟘) → (u : ℕ) → u < n → Y u ≡ 𝟘
  unique zero X Y d h u l = absurd (omega arith)
  unique (suc m) X Y d h u l =
      all (λ v k. field.no_divisor F (add (X v) (X m)) (Y v) (differs m X d v k)
      (unique m X (λ w. mul (Y w) (add (X w) (X m))) (λ i j p q. d i j p (omega arith))
      (λ j q. fewer m X Y j (h j (omega arith)) (h (suc j) (omega arith))) v k)) (ℕ_discrete u m)
    where
      all : ((v : ℕ) → v < m → Y v ≡ 𝟘) → Dec (u ≡ m) → Y u ≡ 𝟘
      all r (no ne) = r u (omega (arith, ne))
      all r (yes e) =
          ap Y e ∙ sym (F.mul_one (Y m)) ∙ ap (mul (Y m)) (sym (field.pow_zero F (X m)))
          ∙ sym (field.zero_add F (mul (Y m) (field.pow F (X m) 0)))
          ∙ ap (λ z. add z (mul (Y m) (field.pow F (X m) 0))) (sym (moment_zero X Y m 0 r))
          ∙ sym (moment_suc X Y m 0) ∙ h 0 (omega arith)

  -- ---- any n values are moments

  put : ℕ → E → (ℕ → E) → ℕ → E
  put m y Y u = elim (ℕ_discrete u m) [ yes e ↦ y | no d ↦ Y u ]

  put_same : (m : ℕ) (y : E) (Y : ℕ → E) → put m y Y m ≡ y
  unfolding put
  put_same m y Y = go (ℕ_discrete m m)
    where
      go : (d : Dec (m ≡ m)) → (elim d as (λ _. E) [ yes e ↦ y | no d ↦ Y m ]) ≡ y
      go (yes e) = refl
      go (no d) = absurd (d refl)

  put_other : (m : ℕ) (y : E) (Y : ℕ → E) (u : ℕ) → u < m → put m y Y u ≡ Y u
  unfolding put
  put_other m y Y u l = go (ℕ_discrete u m)
    where
      go : (d : Dec (u ≡ m)) → (elim d as (λ _. E) [ yes e ↦ y | no d ↦ Y u ]) ≡ Y u
      go (yes e) = absurd (omega (arith, e))
      go (no d) = refl

  -- the weights, by elimination of the last base
  front : (m : ℕ) (X S : ℕ → E) → (ℕ → E) → ℕ → E
  front m X S Y = put m (add (S 0) (moment X Y m 0)) Y

  pub solve : (n : ℕ) (X S : ℕ → E) → ℕ → E
  solve zero X S u = 𝟘
  solve (suc m) X S u =
      front m X S (λ v. mul (solve m X (λ j. add (S (suc j)) (mul (X m) (S j))) v) (inv (add (X v) (X m)))) u

  -- all moments of the solution, from its first one and the eliminated ones
  climb : (m : ℕ) (X S Y Z : ℕ → E)
      → ((u : ℕ) → u < m → mul (Y u) (add (X u) (X m)) ≡ Z u)
      → ((j : ℕ) → j < m → moment X Z m j ≡ add (S (suc j)) (mul (X m) (S j)))
      → moment X Y (suc m) 0 ≡ S 0
      → (j : ℕ) → j < suc m → moment X Y (suc m) j ≡ S j
  climb m X S Y Z hz hm h0 zero l = h0
  climb m X S Y Z hz hm h0 (suc j) l = next (climb m X S Y Z hz hm h0 j (omega arith))
    where
      whole : add (moment X Y (suc m) (suc j)) (mul (X m) (moment X Y (suc m) j)) ≡ add (S (suc j)) (mul (X m) (S j))
      whole = eliminated m X Y j ∙ moment_same X (λ u. mul (Y u) (add (X u) (X m))) Z m j hz ∙ hm j (omega arith)

      undo : (a c : E) → add (add a c) c ≡ a
      undo a c = F.add_assoc a c c ∙ ap (add a) (F.add_self c) ∙ F.add_zero a

      cancel : (a b c : E) → add a c ≡ add b c → a ≡ b
      cancel a b c e = sym (undo a c) ∙ ap (λ z. add z c) e ∙ undo b c

      next : moment X Y (suc m) j ≡ S j → moment X Y (suc m) (suc j) ≡ S (suc j)
      next e =
          cancel (moment X Y (suc m) (suc j)) (S (suc j)) (mul (X m) (S j))
          (ap (λ z. add (moment X Y (suc m) (suc j)) (mul (X m) z)) (sym e) ∙ whole)

  front_first : (m : ℕ) (X S Y : ℕ → E) → moment X (front m X S Y) (suc m) 0 ≡ S 0
  unfolding front
  front_first m X S Y =
      moment_suc X (front m X S Y) m 0
      ∙ ap₂ add
      (moment_same X (front m X S Y) Y m 0 (λ u l. put_other m (add (S 0) (moment X Y m 0)) Y u l))
      (ap₂ mul (put_same m (add (S 0) (moment X Y m 0)) Y) (field.pow_zero F (X m)) ∙ F.mul_one (add (S 0) (moment X Y m 0)))
      ∙ field.add_left_comm F (moment X Y m 0) (S 0) (moment X Y m 0)
      ∙ ap (add (S 0)) (F.add_self (moment X Y m 0)) ∙ F.add_zero (S 0)

  front_other : (m : ℕ) (X S Y : ℕ → E) (u : ℕ) → u < m → front m X S Y u ≡ Y u
  unfolding front
  front_other m X S Y u l = put_other m (add (S 0) (moment X Y m 0)) Y u l

  pub solved : (n : ℕ) (X S : ℕ → E) → Apart X n → (j : ℕ) → j < n → moment X (solve n X S) n j ≡ S j
  unfolding solve
  solved zero X S d j l = absurd (omega arith)
  solved (suc m) X S d j l =
      climb m X S (front m X S (λ v. mul (Z v) (inv (add (X v) (X m))))) Z
      weights
      (solved m X S' (λ i k p q. d i k p (omega arith)))
      (front_first m X S (λ v. mul (Z v) (inv (add (X v) (X m))))) j l
    where
      S' : ℕ → E
      S' i = add (S (suc i)) (mul (X m) (S i))

      Z : ℕ → E
      Z = solve m X S'

      weights : (u : ℕ) → u < m → mul (front m X S (λ v. mul (Z v) (inv (add (X v) (X m)))) u) (add (X u) (X m)) ≡ Z u
      weights u k =
          ap (λ y. mul y (add (X u) (X m))) (front_other m X S (λ v. mul (Z v) (inv (add (X v) (X m)))) u k)
          ∙ field.mul_back F (add (X u) (X m)) (Z u) (differs m X d u k)
