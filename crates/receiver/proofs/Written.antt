-- Parts of a buffer that are written place by place.
use Rattle.std.proofs.Common.{◌≡◌, ◌≢◌, ℕ, ◌+◌, ◌<◌, ◌≤◌, ◌&&◌, ◌⊎◌, cond, ltb, leb, List, length, set, ◌∙◌, sym, ap, inl, inr, refl, arith, length-set, get_or-set_same, get_or-set_other}
use Rattle.std.proofs.lemmas.Bool.{cases_eq, cases_lt, le-ltb, le-leb, lt-ltb}
use Rattle.octets.specs.Octets.{byte}
use Rattle.receiver.specs.Parts.{PartIs}

-- a place other than n lies below n just if it lies below n + 1
below_same : (i n : ℕ) → i ≢ n → ltb i n ≡ ltb i (n + 1)
below_same i n not = elim (cases_lt i n) [
  | inl less ↦ lt-ltb i n less ∙ sym (lt-ltb i (n + 1) (omega arith))
  | inr more ↦ le-ltb i n more ∙ sym (le-ltb i (n + 1) (omega (arith, not)))
]

at_place : (first n : ℕ) (f : ℕ → ℕ → ℕ) (before now : List ℕ) (b : ℕ) → PartIs first n f before now → first ≤ n → n < length now → b ≡ f n (byte now n)
    → (i : ℕ) → (i ≡ n) ⊎ (i ≢ n) → byte (set now n b) i ≡ cond (leb first i && ltb i (n + 1)) (f i (byte before i)) (byte before i)
at_place first n f before now b part above below is i (inl here) =
    let kept : byte now n ≡ byte before n = part.each n ∙ rw (le-ltb n n (omega arith), le-leb first n above) refl in
    rw (here, le-leb first n above, lt-ltb n (n + 1) (omega arith), get_or-set_same now n b 0 below) (is ∙ ap (f n) kept)
at_place first n f before now b part above below is i (inr not) =
    rw (get_or-set_other now n i b 0 not, ← below_same i n not) (part.each i)

-- one place more
pub one_more : (first n : ℕ) (f : ℕ → ℕ → ℕ) (before now : List ℕ) (b : ℕ) → PartIs first n f before now → first ≤ n → n < length now → b ≡ f n (byte now n)
    → PartIs first (n + 1) f before (set now n b)
one_more first n f before now b part above below is = record {
  size = length-set now n b ∙ part.size;
  each = λ i. at_place first n f before now b part above below is i (cases_eq i n);
}
