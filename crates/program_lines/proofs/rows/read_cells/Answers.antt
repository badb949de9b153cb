-- Each turn reads a cell off the front of what is left; where that fails, and where a sign is left, no cells spell the text.
use Rattle.std.proofs.Common.{◌≡◌, ℕ, ◌+◌, ◌-◌, ◌≤◌, ◌<◌, Bool, true, false, List, [], ◌∷◌, ◌++◌, length, get_or, take, drop, vec_items, All, refl, sym, ap, ◌∙◌, append_assoc, arith, take_all, rules}
use Rattle.std.proofs.lemmas.List.Elements.{All-nil, All-push, All-same, All-head, All-tail}
use Rattle.std.proofs.lemmas.List.{append-nil}
use Rattle.program_lines.specs.declared.rows.Cell.{Cell}
use Rattle.program_lines.specs.Cells.{HasFiller, signs, Signs, in_signs, Spells, NoCell, NoCells}
use Rattle.program_lines.proofs.rows.read_cells.Goals as goal

-- one cell more has its two signs more
in_signs_more : (cells : List Cell) (cell : Cell) → in_signs (cells ++ cell ∷ []) ≡ in_signs cells ++ signs cell.known cell.byte
unfolding in_signs
in_signs_more [] cell = append-nil (signs cell.known cell.byte)
in_signs_more (x ∷ cells) cell = rw (in_signs_more cells cell, append_assoc) refl

-- a cell is read off the front of what is left
step : (cells : List Cell) (left text : List ℕ) (pushed : List Cell) (cell : Cell) → 2 ≤ length left → in_signs cells ++ left ≡ text
    → Signs cell (get_or left 0 0) (get_or left 1 0) → pushed ≡ cells ++ cell ∷ [] → in_signs pushed ++ take (length left - 2) (drop 2 left) ≡ text
step cells [] text pushed cell h inv s e = absurd (omega arith)
step cells (x ∷ []) text pushed cell h inv s e = absurd (omega arith)
step cells (x ∷ y ∷ rest) text pushed cell h inv s e =
    let same : take (length (x ∷ y ∷ rest) - 2) rest ≡ rest = take_all _ rest (omega arith) in
    rw (e, in_signs_more cells cell, same, s.0, append_assoc) (cc)

-- with one more that has its filler, all have theirs
filled_more : (cells pushed : List Cell) (cell : Cell) → All HasFiller cells → HasFiller cell → pushed ≡ cells ++ cell ∷ [] → All HasFiller pushed
filled_more cells pushed cell all one e = All-same HasFiller pushed (cells ++ cell ∷ []) e (All-push HasFiller cells cell all one)

-- the two signs of a cell, what stands behind them, and how much all are
first_two : (known : Bool) (b : ℕ) (rest : List ℕ) → signs known b ≡ get_or (signs known b ++ rest) 0 0 ∷ get_or (signs known b ++ rest) 1 0 ∷ []
first_two true b rest = refl
first_two false b rest = refl

behind : (known : Bool) (b : ℕ) (rest : List ℕ) → drop 2 (signs known b ++ rest) ≡ rest
behind true b rest = refl
behind false b rest = refl

two_more : (known : Bool) (b : ℕ) (rest : List ℕ) → length (signs known b ++ rest) ≡ length rest + 2
two_more true b rest = omega arith
two_more false b rest = omega arith

-- where no cells spell what is left, none spell the text
rest_decides : (read : List Cell) (left text : List ℕ) → in_signs read ++ left ≡ text → NoCells (Spells left) → NoCells (Spells text)
unfolding in_signs
rest_decides [] left text inv none cells small e = none cells small (inv ∙ e.0, e.1)
rest_decides (x ∷ read) left text inv none [] small e =
    let front : signs x.known x.byte ++ (in_signs read ++ left) ≡ [] = sym (append_assoc (signs x.known x.byte) (in_signs read) left) ∙ inv ∙ e.0 in
    omega (arith, ap length front, two_more x.known x.byte (in_signs read ++ left))
rest_decides (x ∷ read) left text inv none (cell ∷ cells) small e =
    let front : signs x.known x.byte ++ (in_signs read ++ left) ≡ signs cell.known cell.byte ++ in_signs cells = sym (append_assoc (signs x.known x.byte) (in_signs read) left) ∙ inv ∙ e.0 in
    let same : in_signs read ++ left ≡ in_signs cells =
    sym (behind x.known x.byte (in_signs read ++ left)) ∙ ap (drop 2) front ∙ behind cell.known cell.byte (in_signs cells) in
    rest_decides read left (in_signs cells) same none cells (All-tail (λ cell. cell.byte < 256) cell cells small)
    (refl, All-tail HasFiller cell cells e.1)

-- two signs that stand for no cell
no_cell : (left : List ℕ) → 2 ≤ length left → NoCell (λ cell. Signs cell (get_or left 0 0) (get_or left 1 0)) → NoCells (Spells left)
unfolding in_signs
no_cell left h none [] small e = omega (arith, ap length e.0)
no_cell left h none (cell ∷ cells) small e =
    none cell (All-head (λ cell. cell.byte < 256) cell cells small)
    (rw e.0 (first_two cell.known cell.byte (in_signs cells)), All-head HasFiller cell cells e.1)

-- a lone sign
lone : (left : List ℕ) → length left < 2 → 0 < length left → NoCells (Spells left)
unfolding in_signs
lone left h some [] small e = omega (arith, ap length e.0)
lone left h some (cell ∷ cells) small e = omega (arith, ap length e.0, two_more cell.known cell.byte (in_signs cells))

pub loop-left-init : goal.loop-left-init
unfolding in_signs
loop-left-init c = (simp c.new-cells.ensures.items, All-same HasFiller _ [] c.new-cells.ensures.items (All-nil HasFiller))

pub loop-left-preserved : goal.loop-left-preserved
loop-left-preserved c =
    let h : 2 ≤ length c.loop-left.left.now = search rules in
    let s : Signs c.in_ok-ok_or.field-0 (get_or c.loop-left.left.now 0 0) (get_or c.loop-left.left.now 1 0) = search rules in
    let e = c.in_ok-push.ensures.items in (
      step (vec_items c.loop-left.cells) c.loop-left.left.now c.args.text.now (vec_items c.push.new.self) c.in_ok-ok_or.field-0 h c.loop-left.invariant.0 s e,
      filled_more (vec_items c.loop-left.cells) (vec_items c.push.new.self) c.in_ok-ok_or.field-0 c.loop-left.invariant.1 s.1 e,
    )

pub returns-in_err-ok_or-clause-refused : goal.returns-in_err-ok_or-clause-refused
returns-in_err-ok_or-clause-refused c =
    let h : 2 ≤ length c.loop-left.left.now = search rules in
    let none : NoCell (λ cell. Signs cell (get_or c.loop-left.left.now 0 0) (get_or c.loop-left.left.now 1 0)) = search rules in
    λ _. rest_decides (vec_items c.loop-left.cells) _ _ c.loop-left.invariant.0 (no_cell c.loop-left.left.now h none)

pub returns-else-is_empty-clause-refused : goal.returns-else-is_empty-clause-refused
returns-else-is_empty-clause-refused c =
    λ _. rest_decides (vec_items c.loop-left.cells) _ _ c.loop-left.invariant.0 (lone c.loop-left.left.now (search rules) (search rules))
