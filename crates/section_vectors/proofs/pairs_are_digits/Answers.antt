-- Each two signs and what is behind them decide.
use Rattle.std.proofs.Common.{rules, ◌≡◌, ◌↔◌, ℕ, ◌-◌, ◌<◌, ◌≤◌, List, [], ◌∷◌, length, get_or, take, drop, take_all, arith}
use Rattle.program.specs.Hex.{Digits}
use Rattle.section_vectors.specs.Reasons.{PairsAreDigits}
use Rattle.section_vectors.proofs.pairs_are_digits.Goals as goal

-- the first two signs are the digits of a byte
abbrev FirstPair : List ℕ → Type 0
FirstPair left = (b : ℕ) × (b < 256) × Digits b (get_or left 0 0) (get_or left 1 0)

-- what is left, taken apart into its first two signs and the rest
apart : (left : List ℕ) → 2 ≤ length left → PairsAreDigits left ↔ (FirstPair left × PairsAreDigits (take (length left - 2) (drop 2 left)))
unfolding PairsAreDigits
apart [] h = absurd (omega arith)
apart (x ∷ []) h = absurd (omega arith)
apart (x ∷ y ∷ rest) h =
    let same : take (length (x ∷ y ∷ rest) - 2) rest ≡ rest = take_all _ rest (omega arith) in
    rw same (λ p. p, λ p. p)

-- of fewer than two signs nothing is asked
short : (left : List ℕ) → length left < 2 → PairsAreDigits left
unfolding PairsAreDigits
short [] h = tt
short (x ∷ []) h = tt
short (x ∷ y ∷ rest) h = absurd (omega arith)

pub returns-in_default-byte_of : goal.returns-in_default-byte_of
returns-in_default-byte_of c =
    let none : (b : ℕ) → b < 256 → Digits b (get_or c.loop-left.left.now 0 0) (get_or c.loop-left.left.now 1 0) → ⊥ = search rules in
    let first = λ (p : PairsAreDigits c.loop-left.left.now). ((apart _ c.in-len2-up.len_at_least).0 p).0 in
    (λ h. search rules, λ p. absurd (let f = first (c.loop-left.invariant.0 p) in none f.0 f.1 f.2))

pub loop-left-preserved : goal.loop-left-preserved
loop-left-preserved c =
    let small : c.in-Some._byte < 256 = search rules in
    let two = apart c.loop-left.left.now c.in-len2-up.len_at_least in
    (λ p. (two.0 (c.loop-left.invariant.0 p)).1, λ p. c.loop-left.invariant.1 (two.1 ((c.in-Some._byte, small, c.in-Some.ensures), p)))

pub returns : goal.returns
returns c = (λ _. c.loop-left.invariant.1 (short _ (search rules)), λ _. search rules)
