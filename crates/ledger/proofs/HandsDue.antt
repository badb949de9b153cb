-- What a read-out of a closed burst hands out, where all that the burst knows is of one lawful frame: just what is due.
use Rattle.std.proofs.Common.{◌≡◌, ℕ, ◌+◌, ◌/◌, ◌<◌, ◌≤◌, ◌⊎◌, inl, inr, ⊎_elim, Bool, true, false, cond, nat_lt, List, [], ◌∷◌, ◌++◌, length, take, drop, Some, None, refl, sym, ap, ◌∙◌, subst, eqb-true, length-take-le, get_or-take, lt-ltb, ltb-true, mul-le-mul_right, arith}
use Rattle.std.specs.List.{Contains}
use Rattle.std.proofs.lemmas.Bool.{cond-true, and_parts, and_from, cases_eq, cases_lt, cases_order, both_ways}
use Rattle.std.proofs.lemmas.List.Elements.{Contains-append_left, Contains-push, Contains-push_cases}
use Rattle.octets.specs.Octets.{byte}
use Rattle.marks.specs.Marks.{mark_of, is_known, is_start}
use Rattle.geometry.specs.Cells.{table_size, frame_size}
use Rattle.section.specs.declared.datagrams.IpVersion.{IpVersion}
use Rattle.section.specs.declared.datagrams.IpVersion.TheVariants.{V4, V6}
use Rattle.section.specs.Datagrams.{version_number, whole}
use Rattle.frame.specs.Heads.{length_end}
use Rattle.frame.specs.Frames.{Frame, end_of, placed_from, HasDatagram, Lawful}
use Rattle.frame.proofs.Placed.{stands}
use Rattle.table.specs.Tables.{Table}
use Rattle.table.specs.Bursts.{known_at, start_at}
use Rattle.reading.specs.declared.decisions.Decision.{Decision}
use Rattle.reading.specs.declared.decisions.Decision.TheVariants.{NotTold, Wrong, Incomplete, Whole}
use Rattle.reading.specs.Decisions.{can_read, length_begin, decision_at}
use Rattle.reading.specs.Reading.{next_start, place_by, is_whole, GoesOn, stays, goes_over, Placed}
use Rattle.reading.proofs.Decided.{Told, IsSized, Shows, First, some_whole, head_short, shown_told, shown_part, told_version, told_size, told_sizes, whole_tells, incomplete_tells, each_read, all_read, next_is_first}
use Rattle.ledger.specs.Found.{Has, HasHead, Found, at_0, at_start, behind, Due}
use Rattle.ledger.specs.Law.{Rising, HandsOutDue}
use Rattle.ledger.proofs.Ways.{Way, sets_out, goes_on, hands_out}
use Rattle.ledger.proofs.RisingLists.{rising_push, rising_same, placed_at, placed_rising, placed_first, placed_before, placed_same, placed_behind}

-- What the cells below the limit and their marks show of a frame: they can be read where the ledger has a byte, and hold the
-- frame's; and they have the ledger's starts, each of a datagram of the frame.
record Sees (m : ℕ) (codeword : List ℕ → Type 0) (R : ℕ) (frame : Frame) (t : Table) (cells marks : List ℕ) : Type 0 where
  lawful : Lawful m codeword R frame
  inside : length cells ≤ table_size R
  beyond : end_of frame ≤ length cells
  has : (i : ℕ) → can_read cells marks i ≡ true → Has t i
  reads : (i : ℕ) → i < length cells → Has t i → can_read cells marks i ≡ true
  bytes : (i : ℕ) → can_read cells marks i ≡ true → byte cells i ≡ byte frame.cells i
  starts : (a : ℕ) → a < length cells → t.starts a ≡ start_at marks a
  begins : (a : ℕ) → t.starts a ≡ true → (d : List ℕ) × HasDatagram frame a d

module _ (m : ℕ) (codeword : List ℕ → Type 0) (R : ℕ) (frame : Frame) (t : Table) (cells marks : List ℕ) (sees : Sees m codeword R frame t cells marks) where
  -- ---- at a datagram of the frame
  module _ (q : ℕ) (d : List ℕ) (sent : HasDatagram frame q d) where
    is_one : whole d ≡ true
    is_one = sees.lawful.datagrams.each_whole d (placed_at frame.datagrams 0 (q, d) sent).1

    long : 20 ≤ length d
    long = (some_whole d is_one).1.least

    ends : q + length d ≤ length cells
    ends = omega (arith, (stands m R codeword frame q d sees.lawful sent).below, sees.beyond)

    shows : Shows cells marks q d
    shows = record { below = ends; bytes = λ k below read. sees.bytes (q + k) read ∙ (stands m R codeword frame q d sees.lawful sent).bytes k below }

    reads_at : (k : ℕ) → k < length d → Has t (q + k) → can_read cells marks (q + k) ≡ true
    reads_at k below has = sees.reads (q + k) (omega (arith, ends)) has

    -- it tells itself just where the ledger has its head
    head_told : HasHead t q d → Told cells marks q (length d)
    head_told head =
        let short = head_short head.version in
        shown_told cells marks q d shows is_one head.version head.is_version (sees.reads q (omega (arith, ends, long)) head.first)
        (reads_at (length_begin head.version) (omega (arith, long)) head.high) (reads_at (length_end head.version) (omega (arith, long)) head.low)

    told_head : (n : ℕ) → Told cells marks q n → HasHead t q d
    told_head n is = record {
      first = sees.has q is.head.first;
      version = is.version;
      is_version = told_version cells marks q d shows is_one n is;
      high = sees.has _ is.head.begin;
      low = sees.has _ is.head.end;
    }

    told_length : (n : ℕ) → Told cells marks q n → n ≡ length d
    told_length n is = told_size cells marks q d shows is_one n is

    -- one that the ledger has whole has its head there
    complete_head : ((k : ℕ) → k < length d → Has t (q + k)) → HasHead t q d
    complete_head has =
        let one = some_whole d is_one in
        let short = head_short one.0 in
        let at : q + 0 ≡ q = omega arith in
        record {
          first = rw at at (has 0 (omega (arith, long)));
          version = one.0;
          is_version = one.1.is_version;
          high = has (length_begin one.0) (omega (arith, long));
          low = has (length_end one.0) (omega (arith, long));
        }

  -- ---- at any place
  abbrev Untold : ℕ → Type 0
  Untold q = (n : ℕ) → Told cells marks q n → ⊥

  -- behind the frame's end there are zeros, which are no version
  past_untold : (q : ℕ) → end_of frame ≤ q → Untold q
  past_untold q past n is =
      let zeros = sees.bytes q is.head.first ∙ sees.lawful.padding q past (omega (arith, is.least, is.below, sees.inside)) in
      no_version is.version (ap (λ b. b / 16) (sym zeros) ∙ eqb-true _ _ is.head.is_version)
    where
      no_version : (v : IpVersion) → 0 ≡ version_number v → ⊥
      no_version V4 is = omega arith
      no_version V6 is = omega arith

  -- where a read-out stands: behind the frame's end, or at a datagram of the frame whose start is found
  abbrev Reached : ℕ → Type 0
  Reached q = (end_of frame ≤ q) ⊎ ((d : List ℕ) × HasDatagram frame q d × Found frame t q)

  start_reached : (a : ℕ) → a < length cells → start_at marks a ≡ true → Reached a
  start_reached a below is =
      let started = sees.starts a below ∙ is in
      let begins = sees.begins a started in
      inr (begins.0, begins.1, at_start a started)

  -- what tells itself there is that datagram
  told_at : (q n : ℕ) → Reached q → Told cells marks q n → (d : List ℕ) × HasDatagram frame q d × Found frame t q
  told_at q n (inl past) is = absurd (past_untold q past n is)
  told_at q n (inr at) is = at

  -- no datagram that begins below reaches over it
  clear : (q : ℕ) → Reached q → (a : ℕ) (d : List ℕ) → HasDatagram frame a d → a < q → a + length d ≤ q
  clear q (inl past) a d sent less = omega (arith, (stands m R codeword frame a d sees.lawful sent).below)
  clear q (inr at) a d sent less = placed_before frame.datagrams 0 (a, d) (q, at.0) sent at.1 less

  -- behind a found datagram whose head the ledger has stands the next, which is found so, or none
  reached_behind : (q : ℕ) (d : List ℕ) → HasDatagram frame q d → Found frame t q → HasHead t q d → Reached (q + length d)
  reached_behind q d sent found head =
      ⊎_elim (λ end. inl (omega (arith, end))) (λ next. inr (next.0, next.1, behind q d found sent head)) (placed_behind frame.datagrams 0 (q, d) sent)

  -- ---- over a place where nothing tells itself
  module _ (q : ℕ) (below : q < length cells) where
    abbrev next : ℕ
    next = next_start marks (length cells) q

    first : First (start_at marks) (q + 1) (length cells) next
    first = next_is_first marks (length cells) q below

    next_reached : Reached next
    next_reached = ⊎_elim (λ low. start_reached next low (first.passes low)) (λ high. inl (omega (arith, sees.beyond))) (cases_lt next (length cells))

    -- no found start lies between it and the next start
    gap : Reached q → Untold q → (a : ℕ) → Found frame t a → q < a → a < next → ⊥
    gap reached untold _ at_0 above less = omega arith
    gap reached untold _ (at_start a is) above less =
        both_ways _ (first.least a (omega arith) less) (sym (sees.starts a (omega (arith, first.most))) ∙ is)
    gap reached untold _ (behind a d found sent head) above less =
        elim (cases_order a q) [
          | inl is ↦ untold (length d) (subst (λ p. Told cells marks p (length d)) is (head_told a d sent head))
          | inr (inl before) ↦ omega (arith, clear q reached a d sent before)
          | inr (inr after) ↦ gap reached untold a found after (omega arith)
        ]

  -- ---- along the way of a read-out

  -- what it has handed out, once it stands at this place: by rising address just what is due below
  record SoFar (q : ℕ) (datagrams : List Placed) : Type 0 where
    reached : Reached q
    rising : Rising datagrams
    below : (x : Placed) → Contains datagrams x → x.0 < q
    due : (x : Placed) → Contains datagrams x → Due frame t x.0 x.1
    all : (x : Placed) → Due frame t x.0 x.1 → x.0 < q → Contains datagrams x

  -- it goes on over what is not due
  passes : (q to : ℕ) (datagrams : List Placed) → SoFar q datagrams → q ≤ to → Reached to
      → ((x : Placed) → Due frame t x.0 x.1 → q ≤ x.0 → x.0 < to → ⊥) → SoFar to datagrams
  passes q to datagrams so up reached none = record {
    reached = reached;
    rising = so.rising;
    below = λ x within. omega (arith, so.below x within);
    due = so.due;
    all = λ x due less. ⊎_elim (so.all x due) (λ above. absurd (none x due above less)) (cases_lt x.0 q);
  }

  due_head : (q : ℕ) (d : List ℕ) → Due frame t q d → HasHead t q d
  due_head q d due = complete_head q d due.sent due.complete

  -- so it goes over each place as the decision on it tells
  over_untold : (q : ℕ) (datagrams : List Placed) → q < length cells → SoFar q datagrams → Untold q → SoFar (next_start marks (length cells) q) datagrams
  over_untold q datagrams below so untold =
      passes q (next q below) datagrams so (omega (arith, (first q below).above)) (next_reached q below) (λ x due above less.
      elim (cases_eq x.0 q) [
        | inl is ↦ untold (length x.1) (subst (λ p. Told cells marks p (length x.1)) is (head_told x.0 x.1 due.sent (due_head x.0 x.1 due)))
        | inr other ↦ gap q below so.reached untold x.0 due.found (omega (arith, other)) less
      ])

  -- what is due from a datagram of the frame on, up to its end, is that datagram
  due_there : (q : ℕ) (d : List ℕ) → HasDatagram frame q d → (x : Placed) → Due frame t x.0 x.1 → q ≤ x.0 → x.0 < q + length d → (q, d) ≡ x
  due_there q d sent x due above less =
      placed_same frame.datagrams 0 (q, d) x sent due.sent above less (omega (arith, long x.0 x.1 due.sent))

  over_incomplete : (q n : ℕ) (datagrams : List Placed) → SoFar q datagrams → decision_at cells marks q ≡ Incomplete n → SoFar (q + n) datagrams
  over_incomplete q n datagrams so is =
      let told = incomplete_tells cells marks q n is in
      let at = told_at q n so.reached told.0 in
      let size = told_length q at.0 at.1 n told.0 in
      rw size (passes q (q + length at.0) datagrams so (omega arith) (reached_behind q at.0 at.1 at.2 (told_head q at.0 at.1 n told.0)) (λ x due above less.
      let here : Due frame t q at.0 = subst (λ (w : Placed). Due frame t w.0 w.1) (sym (due_there q at.0 at.1 x due above less)) due in
      both_ways _ told.1 (rw size (all_read cells marks q (length at.0) (λ k low. reads_at q at.0 at.1 k low (here.complete k low))))))

  -- and hands out a datagram that is
  gives : (q : ℕ) (d : List ℕ) (datagrams : List Placed) → SoFar q datagrams → Due frame t q d → SoFar (q + length d) (datagrams ++ ((q, d) ∷ []))
  gives q d datagrams so due = record {
    reached = reached_behind q d due.sent due.found (due_head q d due);
    rising = rising_push datagrams (q, d) so.rising so.below;
    below = λ x within.
        ⊎_elim (λ old. omega (arith, so.below x old)) (λ is. omega (arith, ap (λ (w : Placed). w.0) is, long q d due.sent)) (Contains-push_cases datagrams (q, d) x within);
    due = λ x within. ⊎_elim (so.due x) (λ is. subst (λ (w : Placed). Due frame t w.0 w.1) is due) (Contains-push_cases datagrams (q, d) x within);
    all = λ x x_due less.
        ⊎_elim
        (λ before. Contains-append_left datagrams ((q, d) ∷ []) x (so.all x x_due before))
        (λ above. subst (Contains (datagrams ++ ((q, d) ∷ []))) (due_there q d due.sent x x_due above less) (Contains-push datagrams (q, d)))
        (cases_lt x.0 q);
  }

  over_whole : (q n : ℕ) (datagrams : List Placed) → SoFar q datagrams → decision_at cells marks q ≡ Whole n
      → SoFar (q + n) (datagrams ++ ((q, take n (drop q cells)) ∷ []))
  over_whole q n datagrams so is =
      let told = whole_tells cells marks q n is in
      let at = told_at q n so.reached told.0 in
      let size = told_length q at.0 at.1 n told.0 in
      let each = each_read cells marks q (length at.0) (rw size at told.1) in
      rw (size, shown_part cells marks q at.0 (shows q at.0 at.1) each)
      (gives q at.0 datagrams so (record { sent = at.1; found = at.2; complete = λ k below. sees.has (q + k) (each k below) }))

  over : (q : ℕ) (datagrams : List Placed) → q < length cells → SoFar q datagrams → (x : Decision) → decision_at cells marks q ≡ x → is_whole x ≡ false
      → SoFar (place_by x marks (length cells) q) datagrams
  over q datagrams below so NotTold is not_whole = over_untold q datagrams below so (λ n told. subst (IsSized n) is (told_sizes cells marks q n told))
  over q datagrams below so Wrong is not_whole = over_untold q datagrams below so (λ n told. subst (IsSized n) is (told_sizes cells marks q n told))
  over q datagrams below so (Incomplete n) is not_whole = over_incomplete q n datagrams so is
  over q datagrams below so (Whole n) is not_whole = absurd (both_ways _ not_whole refl)

  goes : (from place : ℕ) (datagrams : List Placed) → SoFar from datagrams → GoesOn cells marks from place → SoFar place datagrams
  goes from _ datagrams so stays = so
  goes from _ datagrams so (goes_over place on below not_whole) = over place datagrams below (goes from place datagrams so on) _ refl not_whole

  so_far : (place : ℕ) (datagrams : List Placed) → Way cells marks place datagrams → SoFar place datagrams
  so_far _ _ sets_out =
      let first = placed_first 0 frame.datagrams sees.lawful.datagrams.some in
      record {
        reached = inr (first.0, first.1, at_0);
        rising = tt;
        below = λ x within. absurd (omega (arith, within.1));
        due = λ x within. absurd (omega (arith, within.1));
        all = λ x due less. absurd (omega arith);
      }
  so_far _ datagrams (goes_on from place _ way on) = goes from place datagrams (so_far from datagrams way) on
  so_far _ _ (hands_out place n datagrams way below is) = over_whole place n datagrams (so_far place datagrams way) is

  hands_out_due : (place : ℕ) (datagrams : List Placed) → Way cells marks place datagrams → length cells ≤ place → HandsOutDue frame t datagrams
  hands_out_due place datagrams way end =
      let so = so_far place datagrams way in
      record {
        rising = so.rising;
        exactly = λ address d. (so.due (address, d), λ due. so.all (address, d) due (omega (arith, ends address d due.sent, long address d due.sent)));
      }

-- ---- a closed burst

-- What the buffers of a closed burst and the ledger know of a lawful frame: the same cells, with the frame's bytes, and the same
-- starts, each of a datagram of the frame; and the limit lies in the table and not before the frame's end.
pub record Knows (m : ℕ) (codeword : List ℕ → Type 0) (R : ℕ) (frame : Frame) (cells marks : List ℕ) (limit : ℕ) (t : Table) : Type 0 where
  pub lawful : Lawful m codeword R frame
  pub size : length cells ≡ frame_size m R
  pub inside : limit ≤ table_size R
  pub beyond : end_of frame ≤ limit
  pub known : (i : ℕ) → i < frame_size m R → known_at cells marks i ≡ t.at i
  pub bytes : (i b : ℕ) → known_at cells marks i ≡ Some b → byte frame.cells i ≡ b
  pub starts : (a : ℕ) → t.starts a ≡ start_at marks a
  pub begins : (a : ℕ) → start_at marks a ≡ true → (d : List ℕ) × HasDatagram frame a d

some_known : (known : Bool) (x y : ℕ) → cond known (Some x) None ≡ Some y → known ≡ true
some_known true x y is = refl
some_known false x y is = cc

module _ (m : ℕ) (codeword : List ℕ → Type 0) (R : ℕ) (frame : Frame) (cells marks : List ℕ) (limit : ℕ) (t : Table) (knows : Knows m codeword R frame cells marks limit t) where
  in_frame : limit ≤ frame_size m R
  in_frame =
      let wide : 191 ≤ 191 + m = omega arith in
      omega (arith, knows.inside, mul-le-mul_right R wide)

  below_limit : length (take limit cells) ≡ limit
  below_limit = length-take-le limit cells (omega (arith, in_frame, knows.size))

  mark_below : (i : ℕ) → i < limit → byte (take limit marks) i ≡ byte marks i
  mark_below i below = get_or-take limit marks i 0 below

  -- a cell can be read where its mark says so, and there its byte is known
  readable : (i : ℕ) → can_read (take limit cells) (take limit marks) i ≡ true → (i < limit) × (is_known (mark_of (byte marks i)) ≡ true)
  readable i read =
      let parts = and_parts (nat_lt i (length (take limit cells))) _ read in
      let below : i < limit = omega (arith, ltb-true i (length (take limit cells)) parts.0, below_limit) in
      (below, ap (λ b. is_known (mark_of b)) (sym (mark_below i below)) ∙ parts.1)

  read_known : (i : ℕ) → can_read (take limit cells) (take limit marks) i ≡ true → known_at cells marks i ≡ Some (byte (take limit cells) i)
  read_known i read =
      let is = readable i read in
      cond-true _ (Some (byte cells i)) None is.1 ∙ ap Some (sym (get_or-take limit cells i 0 is.0))

  known_read : (i : ℕ) → i < limit → Has t i → can_read (take limit cells) (take limit marks) i ≡ true
  known_read i below has =
      let known = some_known _ _ has.0 (knows.known i (omega (arith, in_frame)) ∙ has.1) in
      and_from _ _ (lt-ltb i (length (take limit cells)) (omega (arith, below_limit))) (ap (λ b. is_known (mark_of b)) (mark_below i below) ∙ known)

  sees : Sees m codeword R frame t (take limit cells) (take limit marks)
  sees = record {
    lawful = knows.lawful;
    inside = rw below_limit knows.inside;
    beyond = rw below_limit knows.beyond;
    has = λ i read. (byte (take limit cells) i, sym (knows.known i (omega (arith, in_frame, (readable i read).0))) ∙ read_known i read);
    reads = λ i below has. known_read i (omega (arith, below_limit)) has;
    bytes = λ i read. sym (knows.bytes i _ (read_known i read));
    starts = λ a below.
        let less : a < limit = omega (arith, below_limit) in
        knows.starts a ∙ ap (λ b. is_start (mark_of b)) (sym (mark_below a less));
    begins = λ a is. knows.begins a (sym (knows.starts a) ∙ is);
  }

  pub hands_due : (place : ℕ) (datagrams : List Placed) → Way (take limit cells) (take limit marks) place datagrams → limit ≤ place → HandsOutDue frame t datagrams
  hands_due place datagrams way end = hands_out_due m codeword R frame t (take limit cells) (take limit marks) sees place datagrams way (rw below_limit end)

-- where each datagram of the frame is due, all are handed out, in their order
pub hands_all : (m : ℕ) (codeword : List ℕ → Type 0) (R : ℕ) (frame : Frame) (t : Table) (datagrams : List Placed)
    → Lawful m codeword R frame → HandsOutDue frame t datagrams
    → ((address : ℕ) (d : List ℕ) → HasDatagram frame address d → Due frame t address d) → datagrams ≡ placed_from 0 frame.datagrams
hands_all m codeword R frame t datagrams lawful hands due =
    rising_same datagrams (placed_from 0 frame.datagrams) hands.rising
    (placed_rising 0 frame.datagrams (λ d within. omega (arith, (some_whole d (lawful.datagrams.each_whole d within)).1.least)))
    (λ x. (λ within. ((hands.exactly x.0 x.1).0 within).sent, λ within. (hands.exactly x.0 x.1).1 (due x.0 x.1 within)))
