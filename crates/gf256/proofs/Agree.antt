-- Two linear functions that agree at the powers of x, which the checker tests, agree at each byte.
use Rattle.std.proofs.Common.{◌≡◌, ℕ, zero, suc, ◌+◌, ◌*◌, ◌/◌, ◌%◌, ◌^◌, ◌<◌, ◌≤◌, Bool, T, eqb, eqb→eq, sym, ap, ap₂, ◌∙◌, arith, mod-lt, mod-eq_of_lt, zero-mul, one-mul}
use lib.Bits.{bit_xor, xor_shifted}
use lib.Pow.{pow_pos, mod-pow-add}
use Rattle.octets.proofs.EachByte.{all_below, at_each}
use Rattle.gf256.proofs.Linear.{Linear, Bilinear, linear_zero, bit_two}

-- a number below 2 ^ (n + 1) is its bit n and the rest
top_bit : (n a : ℕ) → a < 2 ^ suc n → a ≡ bit_xor (a / 2 ^ n % 2 * 2 ^ n) (a % 2 ^ n)
top_bit n a h =
    let e : suc n ≡ 1 + n = omega arith in
    sym (mod-eq_of_lt h) ∙ ap (λ (m : ℕ). a % 2 ^ m) e ∙ mod-pow-add a 1 n
    ∙ sym (xor_shifted (a / 2 ^ n % 2) n (a % 2 ^ n) (mod-lt a (pow_pos n)))

-- where they agree at the powers of x, they agree at each byte
pub agree_at : (f g : ℕ → ℕ) → Linear f → Linear g → ((i : ℕ) → i < 8 → f (2 ^ i) ≡ g (2 ^ i)) → (a : ℕ) → a < 256 → f a ≡ g a
agree_at f g lf lg e = go 8 (omega arith)
  where
    none : f 0 ≡ g 0
    none = linear_zero f lf ∙ sym (linear_zero g lg)

    go : (n : ℕ) → n ≤ 8 → (a : ℕ) → a < 2 ^ n → f a ≡ g a
    go zero l a h = let z : a ≡ 0 = omega arith in rw z none
    go (suc n) l a h =
        let top : f (a / 2 ^ n % 2 * 2 ^ n) ≡ g (a / 2 ^ n % 2 * 2 ^ n) = bit_two (λ (x : ℕ). f (x * 2 ^ n) ≡ g (x * 2 ^ n)) (a / 2 ^ n)
        (rw zero-mul none) (rw one-mul (e n (omega arith))) in
        ap f (top_bit n a h) ∙ lf _ _
        ∙ ap₂ bit_xor top (go n (omega arith) (a % 2 ^ n) (mod-lt a (pow_pos n)))
        ∙ sym (lg _ _) ∙ ap g (sym (top_bit n a h))

-- the test of two functions at the eight powers of x in a byte
abbrev pub same_at_powers : (ℕ → ℕ) → (ℕ → ℕ) → Bool
same_at_powers f g = all_below (λ i. eqb (f (2 ^ i)) (g (2 ^ i))) 8

-- where the test passes, they agree at each byte
pub agree : (f g : ℕ → ℕ) → Linear f → Linear g → T (same_at_powers f g) → (a : ℕ) → a < 256 → f a ≡ g a
agree f g lf lg t = agree_at f g lf lg (λ i l. eqb→eq _ _ (at_each (λ i. eqb (f (2 ^ i)) (g (2 ^ i))) 8 t i l))

-- the same of two functions of two bytes
abbrev pub same_at_pairs : (ℕ → ℕ → ℕ) → (ℕ → ℕ → ℕ) → Bool
same_at_pairs f g = all_below (λ i. same_at_powers (f (2 ^ i)) (g (2 ^ i))) 8

pub agree_two : (f g : ℕ → ℕ → ℕ) → Bilinear f → Bilinear g → T (same_at_pairs f g) → (a b : ℕ) → a < 256 → b < 256 → f a b ≡ g a b
agree_two f g lf lg t a b ha hb =
    agree_at (λ x. f x b) (λ x. g x b) (lf.0 b) (lg.0 b)
    (λ i l. agree (f (2 ^ i)) (g (2 ^ i)) (lf.1 (2 ^ i)) (lg.1 (2 ^ i))
    (at_each (λ i. same_at_powers (f (2 ^ i)) (g (2 ^ i))) 8 t i l) b hb) a ha
