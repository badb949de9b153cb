-- What the read-outs of a run have done: each has gone its way from place 0 on, and has handed out what it met there.
use Rattle.std.proofs.Common.{◌≡◌, ◌≢◌, ℕ, zero, suc, ◌+◌, ◌/◌, ◌≤◌, ◌⊎◌, List, [], ◌∷◌, ◌++◌, length, take, slice_get, Option, Some, None, refl, sym, ap, subst, inl, inr, ⊎_elim, append-nil, length-take, eq-eqb, ne_eqb, arith}
use Rattle.std.proofs.lemmas.List.{length_push}
use Rattle.geometry.specs.Cells.{table_size}
use Rattle.table.specs.Bursts.{ClosedNumbers}
use Rattle.reading.specs.Reading.{ReadOut, Placed, HandsOut, NextAnswers, opened}
use Rattle.ledger.specs.Calls.{next, Answer, handed, at_end, History, noted, datagram_of, asked, handed_out}
use Rattle.ledger.specs.Runs.{Stage, unstarted, open_burst, closed_burst, World, world, answer_of_next, Run, new, starts, start_refused, start_refused_elsewhere, takes, take_refused, take_refused_elsewhere, closes, close_refused, close_refused_elsewhere, opens, open_refused, nexts}
use Rattle.ledger.proofs.Ways.{Way, sets_out, goes_on, hands_out, goes_up, paced}

-- ---- numbered lists

-- the list with one put last, and with one in place of another: what holds at each number, before and after
appended : (P : ℕ → Option ReadOut → Type 0) (xs : List ReadOut) (x : ReadOut) → ((j : ℕ) → P j (slice_get xs j))
    → ((j : ℕ) → P j None → P j (Some x)) → (j : ℕ) → P j (slice_get (xs ++ (x ∷ [])) j)
appended P [] x all here zero = here zero (all zero)
appended P [] x all here (suc j) = all (suc j)
appended P (y ∷ xs) x all here zero = all zero
appended P (y ∷ xs) x all here (suc j) = appended (λ i. P (suc i)) xs x (λ i. all (suc i)) (λ i. here (suc i)) j

replaced : (P Q : ℕ → Option ReadOut → Type 0) (front back : List ReadOut) (before after : ReadOut) → ((j : ℕ) → P j (slice_get (front ++ (before ∷ back)) j))
    → (P (length front) (Some before) → Q (length front) (Some after)) → ((j : ℕ) (x : Option ReadOut) → length front ≢ j → P j x → Q j x)
    → (j : ℕ) → Q j (slice_get (front ++ (after ∷ back)) j)
replaced P Q [] back before after all here elsewhere zero = here (all zero)
replaced P Q [] back before after all here elsewhere (suc j) = elsewhere (suc j) _ (omega arith) (all (suc j))
replaced P Q (x ∷ front) back before after all here elsewhere zero = elsewhere zero _ (omega arith) (all zero)
replaced P Q (x ∷ front) back before after all here elsewhere (suc j) =
    replaced (λ i. P (suc i)) (λ i. Q (suc i)) front back before after (λ i. all (suc i)) here
    (λ i y differ. elsewhere (suc i) y (λ same. differ (omega arith))) j

at_front : (front back : List ReadOut) (x : ReadOut) → slice_get (front ++ (x ∷ back)) (length front) ≡ Some x
at_front [] back x = refl
at_front (y ∷ front) back x = at_front front back x

-- ---- one read-out

-- It reads the cells below the limit, with their marks. It was called so often, and has handed out this on its way: one datagram with
-- each call, unless it has come to the limit.
record Went (limit : ℕ) (cells marks : List ℕ) (count : ℕ) (datagrams : List Placed) (r : ReadOut) : Type 0 where
  cells_are : r.cells ≡ take limit cells
  marks_are : r.marks ≡ take limit marks
  way : Way r.cells r.marks r.place datagrams
  each_call : (length r.cells ≤ r.place) ⊎ (count ≡ length datagrams)

-- what it has done so far; where there is none, none was called, and nothing was handed out
abbrev SoFar : (limit : ℕ) → (cells marks : List ℕ) → (count : ℕ) → (datagrams : List Placed) → Option ReadOut → Type 0
SoFar limit cells marks count datagrams None = (count ≡ 0) × (datagrams ≡ [])
SoFar limit cells marks count datagrams (Some r) = Went limit cells marks count datagrams r

-- it has come to the limit on its way, and has handed out this
pub record CameToEnd (cells marks : List ℕ) (datagrams : List Placed) : Type 0 where
  pub place : ℕ
  pub way : Way cells marks place datagrams
  pub limit : length cells ≤ place

handed≢at_end : (datagram : Placed) → handed datagram ≢ at_end
handed≢at_end datagram is = cc

module _ (limit : ℕ) (cells marks : List ℕ) (count : ℕ) (datagrams : List Placed) where
  just_opened : SoFar limit cells marks count datagrams None
      → Went limit cells marks count datagrams (record { cells = take limit cells; marks = take limit marks; place = 0 })
  just_opened unopened = rw (unopened.0, unopened.1) (record { cells_are = refl; marks_are = refl; way = sets_out; each_call = inr refl })

  -- a call that does not ask it
  unasked : (x : Option ReadOut) → SoFar limit cells marks count datagrams x → SoFar limit cells marks (0 + count) (datagrams ++ []) x
  unasked x so_far = rw (append-nil datagrams) (subst (λ n. SoFar limit cells marks n datagrams x) (omega arith) so_far)

  module _ (before after : ReadOut) (went : Went limit cells marks count datagrams before) where
    way_over : (datagram : Placed) → HandsOut before datagram after
        → Way before.cells before.marks (datagram.0 + length datagram.1) (datagrams ++ (datagram ∷ []))
    way_over (address, bytes) says =
        subst (λ held. Way before.cells before.marks (address + length bytes) (datagrams ++ ((address, held) ∷ []))) (sym says.bytes)
        (hands_out address (length bytes) datagrams (goes_on before.place address datagrams went.way says.goes_on) says.below says.whole)

    -- if it hands out now, then it did with each call before
    each_before : (datagram : Placed) → HandsOut before datagram after → count ≡ length datagrams
    each_before datagram says =
        ⊎_elim (λ at_limit. absurd (omega (arith, at_limit, (goes_up _ _ _ _ says.goes_on).0, says.below))) (λ each. each) went.each_call

    once_more : (answer : Option Placed) → NextAnswers before after answer
        → Went limit cells marks (1 + count) (datagrams ++ datagram_of (answer_of_next answer)) after
    once_more (Some datagram) says = subst (Went limit cells marks (1 + count) (datagrams ++ (datagram ∷ []))) (sym says.after_is) (record {
      cells_are = went.cells_are;
      marks_are = went.marks_are;
      way = way_over datagram says;
      each_call = inr (omega (arith, each_before datagram says, length_push datagrams datagram));
    })
    once_more None says = rw (append-nil datagrams) (subst (Went limit cells marks (1 + count) datagrams) (sym says.after_is) (record {
      cells_are = went.cells_are;
      marks_are = went.marks_are;
      way = goes_on before.place after.place datagrams went.way says.goes_on;
      each_call = inl says.limit;
    }))

    comes_to_end : (answer : Option Placed) → NextAnswers before after answer → answer_of_next answer ≡ at_end
        → CameToEnd (take limit cells) (take limit marks) datagrams
    comes_to_end (Some datagram) says is = absurd (handed≢at_end datagram is)
    comes_to_end None says is = rw (← went.cells_are, ← went.marks_are) (record {
      place = after.place;
      way = goes_on before.place after.place datagrams went.way says.goes_on;
      limit = says.limit;
    })

    -- each datagram has at least 20 bytes, so there is no room below the limit for more than a 20th as many
    ends_by : (answer : Option Placed) → NextAnswers before after answer → (R : ℕ) → limit ≤ table_size R → table_size R / 20 ≤ count
        → answer_of_next answer ≡ at_end
    ends_by (Some datagram) says R within many =
        let pace = paced _ _ _ _ (way_over datagram says) in
        absurd (omega (arith, pace.0, pace.1, each_before datagram says, length_push datagrams datagram, ap length went.cells_are, length-take limit cells))
    ends_by None says R within many = refl

-- ---- all read-outs

-- those that there are, and the limit that they go up to
abbrev opened_at : Stage → List ReadOut
opened_at unstarted = []
opened_at (open_burst burst) = []
opened_at (closed_burst burst read_outs) = read_outs

abbrev limit_at : Stage → ℕ
limit_at unstarted = 0
limit_at (open_burst burst) = 0
limit_at (closed_burst burst read_outs) = burst.limit

abbrev AllSoFar : History → World → Type 0
AllSoFar h w = (j : ℕ) → SoFar (limit_at w.stage) w.cells w.marks (asked j h) (handed_out j h) (slice_get (opened_at w.stage) j)

one_more : (h : History) (burst : ClosedNumbers) (read_outs : List ReadOut) (cells marks : List ℕ) → AllSoFar h (world cells marks (closed_burst burst read_outs))
    → AllSoFar h (world cells marks (closed_burst burst (read_outs ++ (opened burst cells marks ∷ []))))
one_more h burst read_outs cells marks all =
    appended (λ j. SoFar burst.limit cells marks (asked j h) (handed_out j h)) read_outs (opened burst cells marks) all
    (λ j. just_opened burst.limit cells marks (asked j h) (handed_out j h))

one_asked : (h : History) (burst : ClosedNumbers) (front back : List ReadOut) (before after : ReadOut) (cells marks : List ℕ) (answer : Option Placed)
    → AllSoFar h (world cells marks (closed_burst burst (front ++ (before ∷ back)))) → NextAnswers before after answer
    → AllSoFar (noted (next (length front)) (answer_of_next answer) ∷ h) (world cells marks (closed_burst burst (front ++ (after ∷ back))))
one_asked h burst front back before after cells marks answer all says =
    let so_far = λ (past : History) (j : ℕ). SoFar burst.limit cells marks (asked j past) (handed_out j past) in
    replaced (so_far h) (so_far (noted (next (length front)) (answer_of_next answer) ∷ h)) front back before after all
    (λ went. rw (eq-eqb (length front) (length front) refl) (once_more burst.limit cells marks _ _ before after went answer says))
    (λ j x differ x_so_far. rw (ne_eqb (length front) j differ) (unasked burst.limit cells marks _ _ x x_so_far))

-- ---- all runs

module _ (m : ℕ) (codeword : List ℕ → Type 0) (sizes : ℕ → Option ℕ) where
  -- a call that asks no read-out
  none_asked : {h : History} {w : World} → Run m codeword sizes h w → AllSoFar h w → (j : ℕ)
      → SoFar (limit_at w.stage) w.cells w.marks (0 + asked j h) (handed_out j h ++ []) (slice_get (opened_at w.stage) j)
  none_asked {h = h} {w = w} run all j =
      unasked (limit_at w.stage) w.cells w.marks (asked j h) (handed_out j h) (slice_get (opened_at w.stage) j) (all j)

  all_so_far : {h : History} {w : World} → Run m codeword sizes h w → AllSoFar h w
  all_so_far (new cells marks) = λ j. (refl, refl)
  all_so_far (starts h w code cells marks marks_after burst run says) = λ j. (refl, refl)
  all_so_far (start_refused h code cells marks marks_after stage e run (_, kept)) = rw kept (none_asked run (all_so_far run))
  all_so_far (start_refused_elsewhere h w code cells marks marks_after e run says) = none_asked run (all_so_far run)
  all_so_far (takes h section arrival burst after cells marks cells_after marks_after run says) = none_asked run (all_so_far run)
  all_so_far (take_refused h section arrival burst after cells marks cells_after marks_after e run says) = none_asked run (all_so_far run)
  all_so_far (take_refused_elsewhere h section arrival burst after cells marks others other_marks others_after other_marks_after e run sizes_differ says) =
      none_asked run (all_so_far run)
  all_so_far (closes h burst cells marks scratch names cells_after marks_after scratch_after names_after after run says) = none_asked run (all_so_far run)
  all_so_far (close_refused h burst back cells marks scratch names cells_after marks_after scratch_after names_after e run says) = none_asked run (all_so_far run)
  all_so_far (close_refused_elsewhere h burst back cells marks others other_marks scratch names others_after other_marks_after scratch_after names_after e run sizes_differ says) =
      none_asked run (all_so_far run)
  all_so_far (opens h burst read_outs read_out cells marks run (_, is_opened)) =
      rw is_opened (λ j. unasked burst.limit cells marks _ _ _ (one_more h burst read_outs cells marks (all_so_far run) j))
  all_so_far (open_refused h burst read_outs cells marks others other_marks e run says) = none_asked run (all_so_far run)
  all_so_far (nexts h burst front back before after cells marks answer run says) =
      one_asked h burst front back before after cells marks answer (all_so_far run) says

  -- What a call of next on read-out k says of the calls before: they are a run, with a closed burst; if next answers end, then the
  -- read-out has come to the limit; and it does answer end at its call number 191×R div 20 + 1, if not before.
  pub record NextTold (before : History) (k : ℕ) (answer : Answer) : Type 0 where
    pub burst : ClosedNumbers
    pub read_outs : List ReadOut
    pub cells : List ℕ
    pub marks : List ℕ
    pub run : Run m codeword sizes before (world cells marks (closed_burst burst read_outs))
    pub came_to_end : answer ≡ at_end → CameToEnd (take burst.limit cells) (take burst.limit marks) (handed_out k before)
    pub ends : (R : ℕ) → burst.limit ≤ table_size R → table_size R / 20 ≤ asked k before → answer ≡ at_end

  pub next_told : {before : History} {k : ℕ} {answer : Answer} {w : World} → Run m codeword sizes (noted (next k) answer ∷ before) w → NextTold before k answer
  next_told (nexts h burst front back before after cells marks answer run says) =
      let went = subst (SoFar burst.limit cells marks (asked (length front) h) (handed_out (length front) h)) (at_front front back before) (all_so_far run (length front)) in
      record {
        burst = burst;
        read_outs = front ++ (before ∷ back);
        cells = cells;
        marks = marks;
        run = run;
        came_to_end = comes_to_end burst.limit cells marks _ _ before after went answer says;
        ends = ends_by burst.limit cells marks _ _ before after went answer says;
      }
