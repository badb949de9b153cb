-- Reading a closed burst out: where a read-out stands, what it hands out, and when it is at its end.
use Rattle.std.specs.Prelude.{◌≡◌, ℕ, ◌+◌, ◌-◌, ◌<◌, ◌≤◌, Bool, true, false, List, [], ◌∷◌, length, take, drop, Option, Some, None, Result, unwrap_or, find}
use Rattle.std.specs.List.{range_with_len}
use Rattle.geometry.specs.Sizes.{buffers_rule}
use Rattle.refusal.specs.declared.Refusal.{Refusal}
use Rattle.refusal.specs.Rules.{Verdict, Answers}
use Rattle.table.specs.Bursts.{ClosedNumbers, start_at}
use Rattle.reading.specs.declared.decisions.Decision.{Decision}
use Rattle.reading.specs.declared.decisions.Decision.TheVariants.{NotTold, Wrong, Incomplete, Whole}
use Rattle.reading.specs.Decisions.{decision_at}

-- the next place above this one that is marked as a start, or the limit where there is none
unfoldable pub next_start : (marks : List ℕ) → (limit place : ℕ) → ℕ
next_start marks limit place = unwrap_or (find (start_at marks) (range_with_len (place + 1) (limit - (place + 1)))) limit

-- where a read-out goes from a place, by what stands there: over a datagram, whole or not, and else to the next start
abbrev pub place_by : Decision → (marks : List ℕ) → (limit place : ℕ) → ℕ
place_by NotTold marks limit place = next_start marks limit place
place_by Wrong marks limit place = next_start marks limit place
place_by (Incomplete n) marks limit place = place + n
place_by (Whole n) marks limit place = place + n

-- and so from each place
abbrev pub place_after : (cells marks : List ℕ) → (place : ℕ) → ℕ
place_after cells marks place = place_by (decision_at cells marks place) marks (length cells) place

-- a whole datagram stands there
abbrev pub is_whole : Decision → Bool
is_whole NotTold = false
is_whole Wrong = false
is_whole (Incomplete n) = false
is_whole (Whole n) = true

-- From a place on a read-out goes on to others, over places below the limit where no whole datagram stands.
pub data GoesOn (cells marks : List ℕ) (from : ℕ) : ℕ → Type 0 where
  stays : GoesOn cells marks from from
  goes_over : (place : ℕ) → GoesOn cells marks from place → place < length cells → is_whole (decision_at cells marks place) ≡ false
      → GoesOn cells marks from (place_after cells marks place)

-- a read-out: the cells below the limit, their marks, and its place
pub record ReadOut : Type 0 where
  pub cells : List ℕ
  pub marks : List ℕ
  pub place : ℕ

-- the same at another place
abbrev pub standing_at : ReadOut → (place : ℕ) → ReadOut
standing_at r place = record { cells = r.cells; marks = r.marks; place = place }

-- how many cells are left to it, up to the limit
abbrev pub cells_left : ReadOut → ℕ
cells_left r = length r.cells - r.place

-- a datagram as it is handed out: its address, and its bytes
abbrev pub Placed : Type 0
Placed = ℕ × List ℕ

-- next hands out a datagram: the first whole one that the read-out comes to; it then stands behind it
pub record HandsOut (before : ReadOut) (datagram : Placed) (after : ReadOut) : Type 0 where
  pub goes_on : GoesOn before.cells before.marks before.place datagram.0
  pub below : datagram.0 < length before.cells
  pub whole : decision_at before.cells before.marks datagram.0 ≡ Whole (length datagram.1)
  pub bytes : datagram.1 ≡ take (length datagram.1) (drop datagram.0 before.cells)
  pub after_is : after ≡ standing_at before (datagram.0 + length datagram.1)

-- next answers end: the read-out comes to the limit
pub record AtEnd (before after : ReadOut) : Type 0 where
  pub goes_on : GoesOn before.cells before.marks before.place after.place
  pub limit : length before.cells ≤ after.place
  pub after_is : after ≡ standing_at before after.place

-- what next answers, and where the read-out then stands
abbrev pub NextAnswers : (before after : ReadOut) → Option Placed → Type 0
NextAnswers before after (Some datagram) = HandsOut before datagram after
NextAnswers before after None = AtEnd before after

-- open, with buffers of so many bytes: 2
abbrev pub open_rules : (m R cells marks : ℕ) → List Verdict
open_rules m R cells marks = buffers_rule m R cells marks ∷ []

-- the read-out that it gives, of a closed burst with these numbers: all cells below the limit, from place 0 on
abbrev pub opened : ClosedNumbers → (cells marks : List ℕ) → ReadOut
opened burst cells marks = record { cells = take burst.limit cells; marks = take burst.limit marks; place = 0 }

-- what it answers: that read-out, or a refusal
abbrev pub OpenAnswers : {T : Type 0} → (m : ℕ) → (burst : ClosedNumbers) → (cells marks : List ℕ) → (read_out : T → ReadOut) → Result T Refusal → Type 0
OpenAnswers m burst cells marks read_out result =
    Answers (open_rules m burst.rows (length cells) (length marks)) (λ x. read_out x ≡ opened burst cells marks) result
