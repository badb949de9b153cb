-- Each turn reads a byte off the front of what is left; where that fails, and where a digit is left, the text is not the digits of bytes.
use Rattle.std.proofs.Common.{◌≡◌, ℕ, ◌-◌, ◌/◌, ◌%◌, ◌<◌, ◌≤◌, List, [], ◌∷◌, ◌++◌, length, get_or, take, drop, vec_items, refl, ap, append_assoc, arith, take_all, rules}
use Rattle.std.proofs.lemmas.List.Elements.{All-head, All-tail}
use Rattle.program.specs.Hex.{hex_digit, Digits, in_hex, NoBytes}
use Rattle.program.proofs.hex.read_digits.Goals as goal

-- one byte more has two digits more
in_hex_more : (bytes : List ℕ) (b : ℕ) → in_hex (bytes ++ b ∷ []) ≡ in_hex bytes ++ (hex_digit (b / 16) ∷ hex_digit (b % 16) ∷ [])
unfolding in_hex
in_hex_more [] b = refl
in_hex_more (x ∷ bytes) b = rw (in_hex_more bytes b)

-- a byte is read off the front of what is left
step : (bytes left text pushed : List ℕ) (b : ℕ) → 2 ≤ length left → in_hex bytes ++ left ≡ text → Digits b (get_or left 0 0) (get_or left 1 0)
    → pushed ≡ bytes ++ b ∷ [] → in_hex pushed ++ take (length left - 2) (drop 2 left) ≡ text
step bytes [] text pushed b h inv d e = absurd (omega arith)
step bytes (x ∷ []) text pushed b h inv d e = absurd (omega arith)
step bytes (x ∷ y ∷ rest) text pushed b h inv d e =
    let same : take (length (x ∷ y ∷ rest) - 2) rest ≡ rest = take_all _ rest (omega arith) in
    rw (e, in_hex_more bytes b, same, append_assoc) (cc)

-- where what is left is not the digits of bytes, the text is not
rest_decides : (read left text : List ℕ) → in_hex read ++ left ≡ text → NoBytes (λ bytes. left ≡ in_hex bytes) → NoBytes (λ bytes. text ≡ in_hex bytes)
unfolding in_hex
rest_decides [] left text inv none bytes small e = none bytes small (cc)
rest_decides (x ∷ read) left text inv none [] small e = let z : ◌≡◌ {A = ℕ} 0 1 = cc in omega arith
rest_decides (x ∷ read) left text inv none (b ∷ bytes) small e = rest_decides read left (in_hex bytes) (cc) none bytes (All-tail (λ b. b < 256) b bytes small) refl

-- two signs that are not the digits of a byte
no_byte : (left : List ℕ) → 2 ≤ length left → ((b : ℕ) → b < 256 → Digits b (get_or left 0 0) (get_or left 1 0) → ⊥) → NoBytes (λ bytes. left ≡ in_hex bytes)
unfolding in_hex
no_byte left h none [] small e = omega (arith, ap length e)
no_byte left h none (b ∷ bytes) small e = none b (All-head (λ b. b < 256) b bytes small) (rw e (refl, refl))

-- a lone digit
lone : (left : List ℕ) → length left < 2 → 0 < length left → NoBytes (λ bytes. left ≡ in_hex bytes)
unfolding in_hex
lone left h some [] small e = omega (arith, ap length e)
lone left h some (b ∷ bytes) small e = omega (arith, ap length e)

pub loop-left-init : goal.loop-left-init
unfolding in_hex
loop-left-init c = simp c.new-bytes.ensures.items

pub loop-left-preserved : goal.loop-left-preserved
loop-left-preserved c =
    let h : 2 ≤ length c.loop-left.left.now = search rules in
    let digits : Digits c.in_ok-ok_or.field-0 (get_or c.loop-left.left.now 0 0) (get_or c.loop-left.left.now 1 0) = search rules in
    step (vec_items c.loop-left.bytes) c.loop-left.left.now c.args.text.now (vec_items c.push.new.self)
    c.in_ok-ok_or.field-0 h c.loop-left.invariant digits c.in_ok-push.ensures.items

pub returns-in_err-ok_or-clause-refused : goal.returns-in_err-ok_or-clause-refused
returns-in_err-ok_or-clause-refused c =
    let h : 2 ≤ length c.loop-left.left.now = search rules in
    let none : (b : ℕ) → b < 256 → Digits b (get_or c.loop-left.left.now 0 0) (get_or c.loop-left.left.now 1 0) → ⊥ = search rules in
    λ _. rest_decides (vec_items c.loop-left.bytes) _ _ c.loop-left.invariant (no_byte c.loop-left.left.now h none)

pub returns-else-is_empty-clause-refused : goal.returns-else-is_empty-clause-refused
returns-else-is_empty-clause-refused c =
    λ _. rest_decides (vec_items c.loop-left.bytes) _ _ c.loop-left.invariant (lone c.loop-left.left.now (search rules) (search rules))
