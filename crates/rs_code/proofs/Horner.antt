-- Horner's rule for a syndrome.
use Rattle.std.proofs.Common.{◌≡◌, ℕ, zero, suc, ◌+◌, ◌-◌, ◌*◌, ◌<◌, ◌≤◌, List, fold, length, take, sym, refl, ap, ◌∙◌, ap₂, add-one, arith, lit<}
use lib.Bits.{bit_xor}
use Rattle.std.proofs.lemmas.List.{take_all}
use Rattle.std.proofs.lemmas.List.Sums.{fold_more}
use Rattle.octets.specs.Octets.{byte}
use Rattle.gf256.specs.Products.{times, power}
use Rattle.gf256.specs.Sums.{field_sum}
use Rattle.gf256.proofs.Laws.{times_lt, times_one}
use Rattle.gf256.proofs.ProductLaws.{times_comm, times_assoc}
use Rattle.gf256.proofs.PowerLaws.{power_lt, power_mul}
use Rattle.rs_code.specs.Codewords.{syndrome}
use Rattle.rs_code.specs.Horner.{horner}
use Rattle.gf256.proofs.Linear.{sum_same}
use Rattle.gf256.proofs.FieldSums.{sum_times}

-- the value at x of the first n bytes, the last of them the constant term
unfoldable pub value_at : List ℕ → ℕ → ℕ → ℕ
value_at row x n = field_sum (λ i. times (byte row i) (power x (n - 1 - i))) n

-- one byte more: the value so far times x, and the byte
value_at_more : (row : List ℕ) (x n : ℕ) → x < 256 → ((i : ℕ) → byte row i < 256)
    → bit_xor (times (value_at row x n) x) (byte row n) ≡ value_at row x (n + 1)
unfolding value_at field_sum power
value_at_more row x n hx h =
    sym (ap (value_at row x) (add-one n)
    ∙ ap₂ bit_xor
    (sum_same (λ i. times (byte row i) (power x (suc n - 1 - i))) (λ i. times (times (byte row i) (power x (n - 1 - i))) x) n lower
    ∙ sum_times (λ i. times (byte row i) (power x (n - 1 - i))) x n (λ i l. times_lt (byte row i) (power x (n - 1 - i)) (h i)))
    (let last : suc n - 1 - n ≡ 0 = omega arith in
    ap (λ (m : ℕ). times (byte row n) (power x m)) last ∙ times_one (byte row n) (h n)))
  where
    lower : (i : ℕ) → i < n → times (byte row i) (power x (suc n - 1 - i)) ≡ times (times (byte row i) (power x (n - 1 - i))) x
    lower i l =
        let e : suc n - 1 - i ≡ suc (n - 1 - i) = omega arith in
        ap (λ (m : ℕ). times (byte row i) (power x m)) e
        ∙ ap (times (byte row i)) (times_comm x (power x (n - 1 - i)) hx (power_lt x (n - 1 - i) hx))
        ∙ sym (times_assoc (byte row i) (power x (n - 1 - i)) x (h i) (power_lt x (n - 1 - i) hx))

-- one step of the rule
abbrev step : ℕ → ℕ → ℕ → ℕ
step x sum b = bit_xor (times sum x) b

folded : (row : List ℕ) (x n : ℕ) → x < 256 → ((i : ℕ) → byte row i < 256) → n ≤ length row → fold (step x) 0 (take n row) ≡ value_at row x n
unfolding value_at field_sum
folded row x zero hx h l = refl
folded row x (suc n) hx h l =
    ap (λ (m : ℕ). fold (step x) 0 (take m row)) (sym (add-one n)) ∙ fold_more (step x) 0 row n 0 l
    ∙ ap (λ (s : ℕ). step x s (byte row n)) (folded row x n hx h (omega arith))
    ∙ value_at_more row x n hx h ∙ ap (value_at row x) (add-one n)

value_is : (row : List ℕ) (j : ℕ) → value_at row (power 2 j) 255 ≡ syndrome row j
unfolding value_at syndrome
value_is row j =
    sum_same (λ i. times (byte row i) (power (power 2 j) (254 - i))) (λ i. times (byte row i) (power 2 (j * (254 - i)))) 255
    (λ i l. ap (times (byte row i)) (sym (power_mul 2 j (254 - i) (lit< tt))))

-- the rule gives the syndrome
pub syndrome_by_rule : (row : List ℕ) (j : ℕ) → length row ≡ 255 → ((i : ℕ) → byte row i < 256) → horner (power 2 j) row ≡ syndrome row j
unfolding horner
syndrome_by_rule row j long h =
    ap (fold (step (power 2 j)) 0) (sym (take_all 255 row (omega (arith, long)))) ∙ folded row (power 2 j) 255 (power_lt 2 j (lit< tt)) h (omega (arith, long)) ∙ value_is row j
