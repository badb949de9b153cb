-- The read-outs of the witness: what they see of the closed burst, and what they answer.
use Rattle.std.proofs.Common.{◌≡◌, ℕ, zero, suc, ◌+◌, ◌<◌, true, lit≤, lit<, eqb, List, [], ◌∷◌, ◌++◌, length, take, replicate, Some, None, refl, sym, ap, ◌∙◌, subst, arith}
use Rattle.std.specs.List.{range_with_len, list_all}
use Rattle.std.proofs.lemmas.Bool.{eqb-true}
use Rattle.std.proofs.lemmas.List.{ext_get_or, get_or-take, length-take-le}
use Rattle.std.proofs.lemmas.List.FromFn.{length-range_with_len, get_or-range_with_len}
use Rattle.std.proofs.lemmas.List.Sums.{AllPass-from_list_all}
use Rattle.octets.specs.Octets.{byte}
use Rattle.refusal.specs.Rules.{Passes}
use Rattle.refusal.proofs.Order.{first_passes}
use Rattle.frame.specs.Frames.{Frame, Lawful, laid}
use Rattle.table.specs.Bursts.{ClosedNumbers}
use Rattle.table.specs.Closing.{filled_mark}
use Rattle.reading.specs.declared.decisions.Decision.TheVariants.{Whole}
use Rattle.reading.specs.Decisions.{decision_at}
use Rattle.reading.specs.Reading.{ReadOut, stays, HandsOut, AtEnd, open_rules, opened}
use Rattle.ledger.specs.Calls.{next, «open», History, noted, done, handed, at_end}
use Rattle.ledger.specs.Runs.{world, closed_burst, Run, opens, nexts}
use Rattle.ledger.specs.Witness.{twenty_rows, Repeats, first_datagram, second_datagram, all_filled, repair, reading, asked_again, full_reception, full_reading}
use Rattle.ledger.proofs.WitnessSections.{two_datagrams, laid_at}
use Rattle.ledger.proofs.WitnessClose.{mark_with_loss, mark_without_loss, marks_closed, mark_closed}

-- a read-out that sees these marks, at this place
abbrev pub reader : (marks : List ℕ) → (place : ℕ) → ReadOut
reader marks place = record { cells = laid two_datagrams; marks = marks; place = place }

-- the closed burst: its limit is E, which was told
abbrev pub closed_at_40 : ClosedNumbers
closed_at_40 = record { rows = 20; limit = 40 }

-- Behind a close with these cells and marks, a read-out sees these marks below the limit, and by them both datagrams are whole.
pub record Readable (seen cells marks : List ℕ) : Type 0 where
  pub cells_size : length cells ≡ 3840
  pub marks_size : length marks ≡ 3840
  pub opens_so : reader seen 0 ≡ opened closed_at_40 cells marks
  pub first : decision_at (laid two_datagrams) seen 0 ≡ Whole 20
  pub second : decision_at (laid two_datagrams) seen 20 ≡ Whole 20

-- ---- what it sees

-- These are the marks below the limit that a close leaves where a burst has those before it, and by them both datagrams are whole.
pub record SeenFrom (mark : ℕ → ℕ) (seen : List ℕ) : Type 0 where
  size : length seen ≡ 40
  each : list_all (λ i. eqb (filled_mark (mark i)) (byte seen i)) (range_with_len 0 40) ≡ true
  first : decision_at (laid two_datagrams) seen 0 ≡ Whole 20
  second : decision_at (laid two_datagrams) seen 20 ≡ Whole 20

-- after the loss 20 cells were filled, and 20 received, of which the first is a start
pub seen_with_loss : List ℕ
seen_with_loss = replicate 20 4 ++ (2 ∷ replicate 19 1)

pub from_with_loss : SeenFrom mark_with_loss seen_with_loss
unfolding seen_with_loss decision_at
from_with_loss = record { size = refl; each = refl; first = refl; second = refl }

-- without a loss 40 were received, and two of them are starts
pub seen_without_loss : List ℕ
seen_without_loss = 2 ∷ replicate 19 1 ++ (2 ∷ replicate 19 1)

pub from_without_loss : SeenFrom mark_without_loss seen_without_loss
unfolding seen_without_loss decision_at
from_without_loss = record { size = refl; each = refl; first = refl; second = refl }

module _ (mark : ℕ → ℕ) (seen : List ℕ) (from : SeenFrom mark seen) where
  -- the mark of a cell below the limit
  mark_is : (i : ℕ) → i < 40 → filled_mark (mark i) ≡ byte seen i
  mark_is i below =
      let here : 0 + i ≡ i = omega arith in
      let same = λ (j : ℕ). eqb (filled_mark (mark j)) (byte seen j) in
      eqb-true _ _
      (subst (λ j. same j ≡ true) (get_or-range_with_len 0 40 i 0 below ∙ here)
      (AllPass-from_list_all same (range_with_len 0 40) from.each i 0 (omega (arith, below, length-range_with_len 0 40))))

  pub readable : (frame : Frame) (is : frame.datagrams ≡ two_datagrams) (lawful : Lawful 1 Repeats 20 frame) (marks : List ℕ)
      → length (marks_closed marks) ≡ 3840 → ((i : ℕ) → byte marks i ≡ mark i)
      → Readable seen frame.cells (marks_closed marks)
  readable frame is lawful marks size marks_are = record {
    cells_size = lawful.size;
    marks_size = size;
    opens_so = λ x. record { cells = same_cells x; marks = same_marks x; place = 0 };
    first = from.first;
    second = from.second;
  }
    where
      same_cells : laid two_datagrams ≡ take 40 frame.cells
      same_cells =
          ext_get_or 0 (laid two_datagrams) (take 40 frame.cells) (sym (length-take-le 40 frame.cells (omega (arith, lawful.size))))
          (λ i below. sym (get_or-take 40 frame.cells i 0 below ∙ laid_at frame is lawful i below))

      same_marks : seen ≡ take 40 (marks_closed marks)
      same_marks =
          ext_get_or 0 seen (take 40 (marks_closed marks)) (from.size ∙ sym (length-take-le 40 (marks_closed marks) (omega (arith, size))))
          (λ i inside.
          let below : i < 40 = omega (arith, inside, from.size) in
          sym (get_or-take 40 (marks_closed marks) i 0 below
          ∙ mark_closed marks i (omega (arith, below))
          ∙ ap filled_mark (marks_are i)
          ∙ mark_is i below))

-- ---- what it answers

module _ {seen cells marks : List ℕ} (by : Readable seen cells marks) where
  -- it stands there
  abbrev standing : (place : ℕ) → ReadOut
  standing place = reader seen place

  hands_first : HandsOut (standing 0) (0, first_datagram) (standing 20)
  hands_first = record { goes_on = stays; below = lit< tt; whole = by.first; bytes = refl; after_is = refl }

  hands_second : HandsOut (standing 20) (20, second_datagram) (standing 40)
  hands_second = record { goes_on = stays; below = lit< tt; whole = by.second; bytes = refl; after_is = refl }

  ends : AtEnd (standing 40) (standing 40)
  ends = record { goes_on = stays; limit = lit≤ tt; after_is = refl }

  -- ---- the calls on the closed burst

  -- the calls lead to it with these read-outs
  abbrev pub ReadSoFar : History → List ReadOut → Type 0
  ReadSoFar h read_outs = Run 1 Repeats twenty_rows h (world cells marks (closed_burst closed_at_40 read_outs))

  opens_one : (h : History) (read_outs : List ReadOut) → ReadSoFar h read_outs
      → ReadSoFar (noted («open» 3840 3840) done ∷ h) (read_outs ++ (standing 0 ∷ []))
  opens_one h read_outs run =
      let passes : Passes (open_rules 1 20 (length cells) (length marks)) = rw (by.cells_size, by.marks_size) (first_passes (open_rules 1 20 3840 3840) refl) in
      let step = opens h closed_at_40 read_outs (standing 0) cells marks run (passes, by.opens_so) in
      rw (by.cells_size, by.marks_size) at step

  -- next on one of them: at place 0, at place 20, and at its end
  reads_first : (h : History) (front back : List ReadOut) → ReadSoFar h (front ++ (standing 0 ∷ back))
      → ReadSoFar (noted (next (length front)) (handed (0, first_datagram)) ∷ h) (front ++ (standing 20 ∷ back))
  reads_first h front back run = nexts h closed_at_40 front back (standing 0) (standing 20) cells marks (Some (0, first_datagram)) run hands_first

  reads_second : (h : History) (front back : List ReadOut) → ReadSoFar h (front ++ (standing 20 ∷ back))
      → ReadSoFar (noted (next (length front)) (handed (20, second_datagram)) ∷ h) (front ++ (standing 40 ∷ back))
  reads_second h front back run = nexts h closed_at_40 front back (standing 20) (standing 40) cells marks (Some (20, second_datagram)) run hands_second

  pub at_its_end : (h : History) (front back : List ReadOut) → ReadSoFar h (front ++ (standing 40 ∷ back))
      → ReadSoFar (noted (next (length front)) at_end ∷ h) (front ++ (standing 40 ∷ back))
  at_its_end h front back run = nexts h closed_at_40 front back (standing 40) (standing 40) cells marks None run ends

  -- in the first run both read-outs hand out both datagrams
  pub both_read : ReadSoFar repair [] → ReadSoFar reading (standing 40 ∷ standing 40 ∷ [])
  both_read run =
      let a = reads_first _ [] [] (opens_one _ [] run) in
      let b = reads_first _ (standing 20 ∷ []) [] (opens_one _ (standing 20 ∷ []) a) in
      let c = reads_second _ [] (standing 20 ∷ []) b in
      let d = at_its_end _ [] (standing 20 ∷ []) (at_its_end _ [] (standing 20 ∷ []) c) in
      reads_second _ (standing 40 ∷ []) [] d

  -- and the second then stays at its end
  pub still_at_end : (n : ℕ) → ReadSoFar reading (standing 40 ∷ standing 40 ∷ []) → ReadSoFar (asked_again n) (standing 40 ∷ standing 40 ∷ [])
  still_at_end zero run = at_its_end reading (standing 40 ∷ []) [] run
  still_at_end (suc n) run = at_its_end (asked_again n) (standing 40 ∷ []) [] (still_at_end n run)

  -- in the second run one does
  pub one_reads : ReadSoFar (all_filled ∷ full_reception) [] → ReadSoFar full_reading (standing 40 ∷ [])
  one_reads run = reads_second _ [] [] (reads_first _ [] [] (opens_one _ [] run))
