-- The way of a read-out: the places that it has come to, and what it has handed out on its way.
use Rattle.std.proofs.Common.{◌≡◌, ℕ, ◌+◌, ◌*◌, ◌<◌, ◌≤◌, List, [], ◌∷◌, ◌++◌, length, take, drop, Option, Some, None, IfSome, option_map, refl, arith}
use Rattle.std.proofs.lemmas.List.{length_push}
use Rattle.reading.specs.declared.decisions.Decision.{Decision}
use Rattle.reading.specs.declared.decisions.Decision.TheVariants.{NotTold, Wrong, Incomplete, Whole}
use Rattle.reading.specs.Decisions.{decision_at}
use Rattle.reading.specs.Reading.{next_start, place_by, GoesOn, stays, goes_over, ReadOut, cells_left, Placed, NextAnswers}
use Rattle.reading.proofs.Decided.{whole_tells, incomplete_tells, next_is_first}

-- over these cells and marks: it stands at this place, and has handed out this, the first first
pub data Way (cells marks : List ℕ) : ℕ → List Placed → Type 0 where
  sets_out : Way cells marks 0 []
  goes_on : (from place : ℕ) (datagrams : List Placed) → Way cells marks from datagrams → GoesOn cells marks from place → Way cells marks place datagrams
  hands_out : (place n : ℕ) (datagrams : List Placed) → Way cells marks place datagrams → place < length cells → decision_at cells marks place ≡ Whole n
      → Way cells marks (place + n) (datagrams ++ ((place, take n (drop place cells)) ∷ []))

module _ (cells marks : List ℕ) where
  next_up : (place : ℕ) → place < length cells → (place ≤ next_start marks (length cells) place) × (next_start marks (length cells) place ≤ length cells)
  next_up place below =
      let first = next_is_first marks (length cells) place below in
      (omega (arith, first.above), first.most)

  -- a step from a place below the limit goes up, and not past the limit
  steps_up : (place : ℕ) → place < length cells → (x : Decision) → decision_at cells marks place ≡ x
      → (place ≤ place_by x marks (length cells) place) × (place_by x marks (length cells) place ≤ length cells)
  steps_up place below NotTold is = next_up place below
  steps_up place below Wrong is = next_up place below
  steps_up place below (Incomplete n) is = (omega arith, (incomplete_tells cells marks place n is).0.below)
  steps_up place below (Whole n) is = (omega arith, (whole_tells cells marks place n is).0.below)

  pub goes_up : (from place : ℕ) → GoesOn cells marks from place → (from ≤ place) × (from ≤ length cells → place ≤ length cells)
  goes_up from _ stays = (omega arith, λ inside. inside)
  goes_up from _ (goes_over place on below not_whole) =
      let before = goes_up from place on in
      let step = steps_up place below _ refl in
      (omega (arith, before.0, step.0), λ inside. step.1)

  -- each datagram handed out took at least 20 places, none of them past the limit
  pub paced : (place : ℕ) (datagrams : List Placed) → Way cells marks place datagrams → (20 * length datagrams ≤ place) × (place ≤ length cells)
  paced _ _ sets_out = (omega arith, omega arith)
  paced _ datagrams (goes_on from place _ way on) =
      let before = paced from datagrams way in
      let up = goes_up from place on in
      (omega (arith, before.0, up.0), up.1 before.1)
  paced _ _ (hands_out place n datagrams way below is) =
      let before = paced place datagrams way in
      let told = (whole_tells cells marks place n is).0 in
      (omega (arith, before.0, told.least, length_push datagrams (place, take n (drop place cells))), told.below)

-- with each datagram that is handed out, fewer cells are left
pub nearer : {T : Type 0} (before after : ReadOut) (as_placed : T → Placed) (result : Option T) → NextAnswers before after (option_map as_placed result)
    → IfSome result (λ _. cells_left after < cells_left before)
nearer before after as_placed (Some x) hands =
    let datagram = as_placed x in
    let up = goes_up before.cells before.marks before.place datagram.0 hands.goes_on in
    let told = (whole_tells before.cells before.marks datagram.0 (length datagram.1) hands.whole).0 in
    rw hands.after_is (omega (arith, up.0, told.least, told.below, hands.below))
nearer before after as_placed None end = tt
