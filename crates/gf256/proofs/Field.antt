-- A field in which each element is its own negative, and sums in it.
use mathlib.Core.Path.{◌≡◌, refl, sym, ap, ap₂, ◌∙◌}
use Prim.Native.Nat.{ℕ, zero, suc, ◌<◌}
use native.Mathlib.Omega.{arith}

pub record Field : Type 1 where
  pub E : Type 0
  pub add : E → E → E
  pub mul : E → E → E
  pub 𝟘 : E
  pub 𝟙 : E
  pub inv : E → E
  pub add_assoc : (a b c : E) → add (add a b) c ≡ add a (add b c)
  pub add_comm : (a b : E) → add a b ≡ add b a
  pub add_zero : (a : E) → add a 𝟘 ≡ a
  pub add_self : (a : E) → add a a ≡ 𝟘
  pub mul_assoc : (a b c : E) → mul (mul a b) c ≡ mul a (mul b c)
  pub mul_comm : (a b : E) → mul a b ≡ mul b a
  pub mul_one : (a : E) → mul a 𝟙 ≡ a
  pub mul_add : (a b c : E) → mul a (add b c) ≡ add (mul a b) (mul a c)
  pub mul_inv : (a : E) → ¬ (a ≡ 𝟘) → mul a (inv a) ≡ 𝟙

module _ (F : Field) where
  open F use {E, add, mul, 𝟘, 𝟙, inv, add_assoc, add_comm, add_self, mul_assoc, mul_comm, mul_one, mul_add, mul_inv}

  pub zero_add : (a : E) → add 𝟘 a ≡ a
  zero_add a = add_comm 𝟘 a ∙ F.add_zero a

  -- a + (a + b) = b
  pub add_twice : (a b : E) → add a (add a b) ≡ b
  add_twice a b = sym (add_assoc a a b) ∙ ap (λ x. add x b) (add_self a) ∙ zero_add b

  pub eq_of_add : (a b : E) → add a b ≡ 𝟘 → a ≡ b
  eq_of_add a b e = sym (F.add_zero a) ∙ ap (add a) (sym e) ∙ add_twice a b

  pub add_left_comm : (a b c : E) → add a (add b c) ≡ add b (add a c)
  add_left_comm a b c = sym (add_assoc a b c) ∙ ap (λ x. add x c) (add_comm a b) ∙ add_assoc b a c

  pub add_four : (a b c d : E) → add (add a b) (add c d) ≡ add (add a c) (add b d)
  add_four a b c d = add_assoc a b (add c d) ∙ ap (add a) (add_left_comm b c d) ∙ sym (add_assoc a c (add b d))

  pub mul_left_comm : (a b c : E) → mul a (mul b c) ≡ mul b (mul a c)
  mul_left_comm a b c = sym (mul_assoc a b c) ∙ ap (λ x. mul x c) (mul_comm a b) ∙ mul_assoc b a c

  pub add_mul : (a b c : E) → mul (add a b) c ≡ add (mul a c) (mul b c)
  add_mul a b c = mul_comm (add a b) c ∙ mul_add c a b ∙ ap₂ add (mul_comm c a) (mul_comm c b)

  pub mul_zero : (a : E) → mul a 𝟘 ≡ 𝟘
  mul_zero a = ap (mul a) (sym (add_self 𝟘)) ∙ mul_add a 𝟘 𝟘 ∙ add_self (mul a 𝟘)

  pub zero_mul : (a : E) → mul 𝟘 a ≡ 𝟘
  zero_mul a = mul_comm 𝟘 a ∙ mul_zero a

  -- dividing by a and multiplying by it again
  pub mul_back : (a b : E) → ¬ (a ≡ 𝟘) → mul (mul b (inv a)) a ≡ b
  mul_back a b h = mul_assoc b (inv a) a ∙ ap (mul b) (mul_comm (inv a) a ∙ mul_inv a h) ∙ mul_one b

  pub no_divisor : (a b : E) → ¬ (a ≡ 𝟘) → mul b a ≡ 𝟘 → b ≡ 𝟘
  no_divisor a b h e =
      sym (mul_one b) ∙ ap (mul b) (sym (mul_inv a h)) ∙ sym (mul_assoc b a (inv a)) ∙ ap (λ x. mul x (inv a)) e ∙ zero_mul (inv a)

  pub pow : E → ℕ → E
  pow x zero = 𝟙
  pow x (suc n) = mul x (pow x n)

  pub pow_zero : (x : E) → pow x zero ≡ 𝟙
  unfolding pow
  pow_zero x = refl

  pub pow_suc : (x : E) (n : ℕ) → pow x (suc n) ≡ mul x (pow x n)
  unfolding pow
  pow_suc x n = refl

  -- f 0 + .. + f (n - 1)
  pub sum : (ℕ → E) → ℕ → E
  sum f zero = 𝟘
  sum f (suc n) = add (sum f n) (f n)

  pub sum_none : (f : ℕ → E) → sum f zero ≡ 𝟘
  unfolding sum
  sum_none f = refl

  pub sum_suc : (f : ℕ → E) (n : ℕ) → sum f (suc n) ≡ add (sum f n) (f n)
  unfolding sum
  sum_suc f n = refl

  pub sum_same : (f g : ℕ → E) (n : ℕ) → ((i : ℕ) → i < n → f i ≡ g i) → sum f n ≡ sum g n
  unfolding sum
  sum_same f g zero h = refl
  sum_same f g (suc n) h = ap₂ add (sum_same f g n (λ i l. h i (omega arith))) (h n (omega arith))

  pub sum_zero : (f : ℕ → E) (n : ℕ) → ((i : ℕ) → i < n → f i ≡ 𝟘) → sum f n ≡ 𝟘
  unfolding sum
  sum_zero f zero h = refl
  sum_zero f (suc n) h = ap₂ add (sum_zero f n (λ i l. h i (omega arith))) (h n (omega arith)) ∙ F.add_zero 𝟘

  pub sum_add : (f g : ℕ → E) (n : ℕ) → sum (λ i. add (f i) (g i)) n ≡ add (sum f n) (sum g n)
  unfolding sum
  sum_add f g zero = sym (F.add_zero 𝟘)
  sum_add f g (suc n) = ap (λ x. add x (add (f n) (g n))) (sum_add f g n) ∙ add_four (sum f n) (sum g n) (f n) (g n)

  pub sum_mul : (c : E) (f : ℕ → E) (n : ℕ) → sum (λ i. mul c (f i)) n ≡ mul c (sum f n)
  unfolding sum
  sum_mul c f zero = sym (mul_zero c)
  sum_mul c f (suc n) = ap (λ x. add x (mul c (f n))) (sum_mul c f n) ∙ sym (mul_add c (sum f n) (f n))
