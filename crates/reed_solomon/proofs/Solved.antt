-- The step of `solve`: the last locator eliminated, and the values of all from those of the others.
use Rattle.std.proofs.Common.{◌≡◌, ◌≢◌, ℕ, zero, suc, ◌+◌, ◌-◌, ◌<◌, List, [], ◌∷◌, ◌++◌, length, take, sym, refl, ap, ◌∙◌, ap₂, subst, add-one, arith, length-append}
use lib.Bits.{bit_xor, xor_assoc, xor_comm, xor_self, xor_zero_r}
use Rattle.std.proofs.lemmas.List.{get_or-take, length-take-le, get_or_append_left}
use Rattle.std.proofs.Math.Seq.{get_or-append_seam}
use Rattle.octets.specs.Octets.{byte}
use Rattle.gf256.specs.Products.{times, power}
use Rattle.gf256.specs.Sums.{field_sum}
use Rattle.gf256.proofs.Bytes.{Byte, GF}
use Rattle.gf256.proofs.Field as field
use Rattle.gf256.proofs.Laws.{times_one, times_lt}
use Rattle.gf256.proofs.NoZeroDivisors.{pow_is}
use Rattle.gf256.proofs.Vandermonde.{moment, moment_is, eliminated}
use Rattle.reed_solomon.specs.Solving.{erasure_syndrome, Solves, NoneSolve, Apart}
use Rattle.gf256.proofs.Linear.{sum_same}
use Rattle.rs_code.proofs.Words.{number, sum_is}

-- bytes by their places, as elements
abbrev pub elements : (x : ℕ → ℕ) → ((i : ℕ) → x i < 256) → ℕ → Byte
elements x hx i = (x i, hx i)

-- a syndrome that values make is a moment
pub erasure_syndrome_is : (x y : ℕ → ℕ) (hx : (i : ℕ) → x i < 256) (hy : (i : ℕ) → y i < 256) (n j : ℕ)
    → number (moment GF (elements x hx) (elements y hy) n j) ≡ erasure_syndrome x y n j
unfolding erasure_syndrome
erasure_syndrome_is x y hx hy n j =
    ap number (moment_is GF (elements x hx) (elements y hy) n j)
    ∙ sum_is (λ i. GF.mul (elements y hy i) (field.pow GF (elements x hx i) j)) n
    ∙ sum_same (λ i. times (y i) (number (field.pow GF (elements x hx i) j))) (λ i. times (y i) (power (x i) j)) n
    (λ i l. ap (times (y i)) (pow_is (elements x hx i) j))

-- the same locators and values make the same syndromes
locators_same : (x x' y : ℕ → ℕ) (n j : ℕ) → ((u : ℕ) → u < n → x u ≡ x' u) → erasure_syndrome x y n j ≡ erasure_syndrome x' y n j
unfolding erasure_syndrome
locators_same x x' y n j h = sum_same (λ u. times (y u) (power (x u) j)) (λ u. times (y u) (power (x' u) j)) n (λ u l. ap (λ b. times (y u) (power b j)) (h u l))

values_same : (x y z : ℕ → ℕ) (n j : ℕ) → ((u : ℕ) → u < n → y u ≡ z u) → erasure_syndrome x y n j ≡ erasure_syndrome x z n j
unfolding erasure_syndrome
values_same x y z n j h = sum_same (λ u. times (y u) (power (x u) j)) (λ u. times (z u) (power (x u) j)) n (λ u l. ap (λ w. times w (power (x u) j)) (h u l))

-- where nothing is missing all syndromes are 0, and any values make them
no_erasures : (x y : ℕ → ℕ) (j : ℕ) → erasure_syndrome x y 0 j ≡ 0
unfolding erasure_syndrome field_sum
no_erasures x y j = refl

pub zeros_solve : (x y : ℕ → ℕ) (syndromes : List ℕ) (n : ℕ) → n ≡ 0
    → ((k : ℕ) → k < length syndromes → byte syndromes k ≡ 0) → Solves x y (byte syndromes) n (length syndromes)
zeros_solve x y syndromes n none zeros j l = ap (λ (m : ℕ). erasure_syndrome x y m j) none ∙ no_erasures x y j ∙ sym (zeros j l)

pub solved_zeros : (x y : ℕ → ℕ) (syndromes : List ℕ) (n : ℕ) → n ≡ 0 → Solves x y (byte syndromes) n (length syndromes)
    → (k : ℕ) → k < length syndromes → byte syndromes k ≡ 0
solved_zeros x y syndromes n none solves k l = sym (solves k l) ∙ ap (λ (m : ℕ). erasure_syndrome x y m k) none ∙ no_erasures x y k

-- the 0-th syndrome is the sum of the values
first_is : (x y : ℕ → ℕ) (m : ℕ) → ((u : ℕ) → y u < 256) → erasure_syndrome x y (suc m) 0 ≡ bit_xor (field_sum y m) (y m)
unfolding erasure_syndrome power field_sum
first_is x y m hy = ap₂ bit_xor (sum_same (λ u. times (y u) 1) y m (λ u k. times_one (y u) (hy u))) (times_one (y m) (hy m))

-- the last locator eliminated: the next syndrome of all values, plus the last locator times this one, is what the others make
-- whose values are multiplied by the sum of their locator and the last one
eliminated_syndrome : (x y : ℕ → ℕ) → ((i : ℕ) → x i < 256) → ((i : ℕ) → y i < 256) → (m j : ℕ)
    → bit_xor (erasure_syndrome x y (suc m) (suc j)) (times (x m) (erasure_syndrome x y (suc m) j)) ≡ erasure_syndrome x (λ u. times (y u) (bit_xor (x u) (x m))) m j
eliminated_syndrome x y hx hy m j =
    ap₂ (λ a b. bit_xor a (times (x m) b)) (sym (erasure_syndrome_is x y hx hy (suc m) (suc j))) (sym (erasure_syndrome_is x y hx hy (suc m) j))
    ∙ ap number (eliminated GF m (elements x hx) (elements y hy) j)
    ∙ erasure_syndrome_is x (λ u. times (y u) (bit_xor (x u) (x m))) hx (λ u. times_lt (y u) (bit_xor (x u) (x m)) (hy u)) m j

-- what is added on both sides is left out
cancel : (a b c : ℕ) → bit_xor a c ≡ bit_xor b c → a ≡ b
cancel a b c e = sym (undo a) ∙ ap (λ z. bit_xor z c) e ∙ undo b
  where
    undo : (d : ℕ) → bit_xor (bit_xor d c) c ≡ d
    undo d = xor_assoc d c c ∙ ap (bit_xor d) (xor_self c) ∙ xor_zero_r d

module _ (x s s' : ℕ → ℕ) (hx : (i : ℕ) → x i < 256) (m p : ℕ)
    (reduced : (j : ℕ) → suc j < p → s' j ≡ bit_xor (s (suc j)) (times (x m) (s j))) where
  -- from values z of the others to values y of all
  all_solve : (y z : ℕ → ℕ) → ((i : ℕ) → y i < 256)
      → ((u : ℕ) → u < m → times (y u) (bit_xor (x u) (x m)) ≡ z u)
      → y m ≡ bit_xor (s 0) (field_sum y m)
      → ((j : ℕ) → suc j < p → erasure_syndrome x z m j ≡ s' j)
      → Solves x y s (suc m) p
  all_solve y z hy hz hm solves zero l =
      first_is x y m hy
      ∙ ap (bit_xor (field_sum y m)) (hm ∙ xor_comm (s 0) (field_sum y m))
      ∙ sym (xor_assoc (field_sum y m) (field_sum y m) (s 0))
      ∙ ap (λ q. bit_xor q (s 0)) (xor_self (field_sum y m))
      ∙ xor_comm 0 (s 0) ∙ xor_zero_r (s 0)
  all_solve y z hy hz hm solves (suc j) l =
      let before : erasure_syndrome x y (suc m) j ≡ s j = all_solve y z hy hz hm solves j (omega arith) in
      cancel (erasure_syndrome x y (suc m) (suc j)) (s (suc j)) (times (x m) (s j))
      (ap (λ w. bit_xor (erasure_syndrome x y (suc m) (suc j)) (times (x m) w)) (sym before)
      ∙ eliminated_syndrome x y hx hy m j
      ∙ values_same x (λ u. times (y u) (bit_xor (x u) (x m))) z m j hz
      ∙ solves j l ∙ reduced j l)

  -- and from values of all to values of the others
  others_solve : (y : ℕ → ℕ) → ((i : ℕ) → y i < 256) → Solves x y s (suc m) p
      → (j : ℕ) → suc j < p → erasure_syndrome x (λ u. times (y u) (bit_xor (x u) (x m))) m j ≡ s' j
  others_solve y hy solves j l =
      sym (eliminated_syndrome x y hx hy m j) ∙ ap₂ (λ a b. bit_xor a (times (x m) b)) (solves (suc j) l) (solves j (omega arith)) ∙ sym (reduced j l)

-- ---- with the locators as a list, the last of them eliminated

module _ (locators others : List ℕ) (locator : ℕ) (syndromes after : List ℕ) (split : locators ≡ others ++ locator ∷ [])
    (bytes : (i : ℕ) → byte locators i < 256) (long : length after ≡ length syndromes)
    (reduced : (j : ℕ) → j + 1 < length syndromes → byte after j ≡ bit_xor (byte syndromes (j + 1)) (times locator (byte syndromes j))) where
  other_is : (u : ℕ) → u < length others → byte locators u ≡ byte others u
  other_is u l = ap (λ xs. byte xs u) split ∙ get_or_append_left others (locator ∷ []) 0 u l

  last_is : byte locators (length others) ≡ locator
  last_is = ap (λ xs. byte xs (length others)) split ∙ get_or-append_seam others locator [] 0

  longer : length locators ≡ suc (length others)
  longer = ap length split ∙ length-append others (locator ∷ []) ∙ add-one (length others)

  step : (j : ℕ) → suc j < length syndromes → byte after j ≡ bit_xor (byte syndromes (suc j)) (times (byte locators (length others)) (byte syndromes j))
  step j l =
      reduced j (omega (arith, l))
      ∙ ap₂ (λ (k : ℕ) (b : ℕ). bit_xor (byte syndromes k) (times b (byte syndromes j))) (add-one j) (sym last_is)

  left : List ℕ
  left = take (length after - 1) after

  left_at : (j : ℕ) → suc j < length syndromes → (j < length left) × (byte left j ≡ byte after j)
  unfolding left
  left_at j l = (
    omega (arith, long, length-take-le (length after - 1) after (omega arith)),
    get_or-take (length after - 1) after j 0 (omega (arith, long)),
  )

  left_below : (j : ℕ) → j < length left → suc j < length syndromes
  unfolding left
  left_below j l = omega (arith, long, length-take-le (length after - 1) after (omega arith))

  pub step_found : (values solved : List ℕ) → ((i : ℕ) → byte values i < 256)
      → ((u : ℕ) → u < length others → times (byte values u) (bit_xor (byte others u) locator) ≡ byte solved u)
      → byte values (length others) ≡ bit_xor (byte syndromes 0) (field_sum (byte values) (length others))
      → Solves (byte others) (byte solved) (byte (take (length after - 1) after)) (length others) (length (take (length after - 1) after))
      → Solves (byte locators) (byte values) (byte syndromes) (length locators) (length syndromes)
  unfolding left
  step_found values solved hw divided last solves =
      subst (λ (n : ℕ). Solves (byte locators) (byte values) (byte syndromes) n (length syndromes)) (sym longer)
      (all_solve (byte locators) (byte syndromes) (byte after) bytes (length others) (length syndromes) step (byte values) (byte solved) hw
      (λ u l. ap₂ (λ x b. times (byte values u) (bit_xor x b)) (other_is u l) last_is ∙ divided u l) last
      (λ j l. locators_same (byte locators) (byte others) (byte solved) (length others) j other_is ∙ solves j (left_at j l).0 ∙ (left_at j l).1))

  pub step_none : NoneSolve (byte others) (byte (take (length after - 1) after)) (length others) (length (take (length after - 1) after))
      → NoneSolve (byte locators) (byte syndromes) (length locators) (length syndromes)
  unfolding left
  step_none none y hy solves =
      none (λ u. times (y u) (bit_xor (byte locators u) (byte locators (length others))))
      (λ u. times_lt (y u) (bit_xor (byte locators u) (byte locators (length others))) (hy u))
      (λ j l. let h : suc j < length syndromes = left_below j l in
      sym (locators_same (byte locators) (byte others) (λ u. times (y u) (bit_xor (byte locators u) (byte locators (length others)))) (length others) j other_is)
      ∙ others_solve (byte locators) (byte syndromes) (byte after) bytes (length others) (length syndromes) step y hy
      (subst (λ (n : ℕ). Solves (byte locators) y (byte syndromes) n (length syndromes)) longer solves) j h
      ∙ sym (left_at j h).1)

  pub apart_others : Apart (byte locators) (length locators) → Apart (byte others) (length others)
  apart_others apart i j h l e =
      apart i j h (omega (arith, longer)) (other_is i (omega arith) ∙ e ∙ sym (other_is j l))

  pub last_differs : Apart (byte locators) (length locators) → (u : ℕ) → u < length others → byte others u ≢ locator
  last_differs apart u l e = apart u (length others) l (omega (arith, longer)) (other_is u l ∙ e ∙ sym last_is)
