-- The two runs of the witness, step by step: two sections of a lawful frame are taken, the close fills the column that did not come,
-- and both datagrams are handed out.
use Rattle.std.proofs.Common.{◌≡◌, ℕ, ◌+◌, ◌≤◌, lit≤, lit<, List, [], ◌∷◌, ◌++◌, length, replicate, Ok, refl, sym, subst, ap, ◌∙◌}
use Rattle.std.specs.List.{All, Contains}
use Rattle.std.proofs.lemmas.List.{length-replicate}
use Rattle.std.proofs.lemmas.List.Elements.{All-nil, All-cons, All-contains}
use Rattle.octets.specs.Octets.{byte}
use Rattle.geometry.specs.Sizes.{buffers_rule}
use Rattle.refusal.specs.declared.Refusal.TheVariants.{FrameBuffers}
use Rattle.refusal.specs.Rules.{Passes}
use Rattle.refusal.proofs.Order.{first_passes, first_refuses}
use Rattle.section.specs.Rules.{read_rules}
use Rattle.frame.specs.Fields.{fields_of}
use Rattle.frame.specs.Frames.{Frame, Lawful, HasDatagram, placed_from}
use Rattle.frame.specs.Sent.{ComesFrom}
use Rattle.frame.proofs.OneFrame.{one_frame}
use Rattle.table.specs.Tables.{Table}
use Rattle.table.specs.Telling.{first_cell}
use Rattle.table.specs.Bursts.{Numbers, started, table_of, closed_numbers}
use Rattle.table.specs.Rules.{start_rules, table_rules, section_rules, take_rules}
use Rattle.table.specs.Taking.{byte_after, mark_after, numbers_after, Took}
use Rattle.table.specs.Closing.{close_rules}
use Rattle.table.proofs.Order.{both_pass, answers_behind}
use Rattle.table.proofs.Own.{own_admits}
use Rattle.table.proofs.Started.{unmarked}
use Rattle.reading.specs.Reading.{ReadOut}
use Rattle.ledger.specs.Calls.{start, take, done, refused, History, noted, calls, taken}
use Rattle.ledger.specs.Ledgers.{Ledger}
use Rattle.ledger.specs.Runs.{StartSays, World, world, open_burst, closed_burst, unstarted, Run, new, starts, takes, take_refused_elsewhere, closes}
use Rattle.ledger.specs.Law.{AllFrom, Came}
use Rattle.ledger.specs.Witness.{twenty_rows, Repeats, first_datagram, second_datagram, first_section, second_section, check_section, reception, all_filled, reading, history, full_reception, full_reading, MetBy, Met}
use Rattle.ledger.proofs.Linked.{linked}
use Rattle.ledger.proofs.Taking.{listed, can_take}
use Rattle.ledger.proofs.Repeating.{any_begins}
use Rattle.ledger.proofs.WitnessSections.{two_datagrams, fits, first_comes, second_comes, check_comes}
use Rattle.ledger.proofs.WitnessClose.{Enough, mark_with_loss, enough_with_loss, mark_without_loss, enough_without_loss, marks_closed, rows_filled}
use Rattle.ledger.proofs.WitnessReadOuts.{closed_at_40, reader, Readable, SeenFrom, seen_with_loss, from_with_loss, seen_without_loss, from_without_loss, readable, ReadSoFar, at_its_end, both_read, still_at_end, one_reads}

-- one check column is few enough
pub few : 1 ≤ 64
few = lit≤ tt

module _ (frame : Frame) (lawful : Lawful 1 Repeats 20 frame) where
  -- the calls lead to an open burst of 20 rows that was told this, with these marks, and what was taken came from the frame
  record Reached (h : History) (told : Numbers) (mark : ℕ → ℕ) : Type 0 where
    cells : List ℕ
    marks : List ℕ
    run : Run 1 Repeats twenty_rows h (world cells marks (open_burst (record told { rows = 20 })))
    marks_are : (i : ℕ) → byte marks i ≡ mark i
    came : All (ComesFrom 20 1 frame) (taken h)

  all_from : (h : History) → All (ComesFrom 20 1 frame) (taken h) → AllFrom 1 20 frame h
  all_from h came s has = All-contains (ComesFrom 20 1 frame) (taken h) s came has

  -- a start can come at any time
  begins : (h : History) (w : World) → Run 1 Repeats twenty_rows h w → (n : ℕ) → n ≡ 3840
      → Reached (noted (start 0 n n) done ∷ h) (started 20) (λ i. 0)
  begins h w run n size =
      let zeros : List ℕ = replicate n 0 in
      let long : length zeros ≡ n = length-replicate n 0 in
      let passes : Passes (start_rules twenty_rows 1 0 (length zeros) (length zeros)) =
      rw (long, size) (first_passes (start_rules twenty_rows 1 0 3840 3840) refl) in
      let says : StartSays twenty_rows 1 0 zeros zeros (replicate (length zeros) 0) (Ok (started 20)) =
      ((passes, record { rows = refl; numbers = refl; marks_are_0 = refl }), tt) in
      let step = starts h w 0 zeros zeros (replicate (length zeros) 0) (started 20) run says in
      record {
        cells = zeros;
        marks = zeros;
        run = rw long at step;
        marks_are = unmarked n;
        came = All-nil (ComesFrom 20 1 frame);
      }

  -- a take of one of the frame's sections
  takes_section : (h : History) (told : Numbers) (mark : ℕ → ℕ) (section : List ℕ) (arrival : ℕ) → Reached h told mark
      → ComesFrom 20 1 frame section
      → first_cell 20 (fields_of section) + length (fields_of section).payload ≤ 3840
      → Reached (noted (take section arrival 3840 3840) done ∷ h) (numbers_after (fields_of section) arrival told)
      (λ i. mark_after 20 (fields_of section) i (mark i))
  takes_section h told mark section arrival at comes ends =
      let f = fields_of section in
      let burst : Numbers = record told { rows = 20 } in
      let t = table_of burst at.cells at.marks in
      let link = linked 1 Repeats few twenty_rows h _ at.run in
      let cells_after = listed 3840 (λ i. byte_after 20 f i (byte at.cells i)) in
      let marks_after = listed 3840 (λ i. mark_after 20 f i (byte at.marks i)) in
      let took : Took f arrival burst at.cells at.marks (numbers_after f arrival burst) cells_after marks_after =
      can_take f arrival burst at.cells at.marks 3840 link.cells_size link.marks_size (lit≤ tt) ends in
      let admits = own_admits 1 Repeats t frame section few lawful (link.agrees frame lawful (all_from h at.came)) comes in
      let section_passes = both_pass (read_rules 20 1 section) (table_rules t f) admits.reading admits.table in
      let passes_3840 = (answers_behind {T = Unit {0}} (buffers_rule 1 20 3840 3840) (section_rules 1 t section) (λ _. Unit {0}) (Ok tt) refl (section_passes, tt)).0 in
      let passes : Passes (take_rules 1 t section (length at.cells) (length at.marks)) = rw (link.cells_size, link.marks_size) passes_3840 in
      let step = takes h section arrival burst (numbers_after f arrival burst) at.cells at.marks cells_after marks_after at.run ((passes, took), tt) in
      record {
        cells = cells_after;
        marks = marks_after;
        run = rw (link.cells_size, link.marks_size) at step;
        marks_are = λ i. took.each_mark i ∙ ap (mark_after 20 f i) (at.marks_are i);
        came = All-cons (ComesFrom 20 1 frame) section (taken h) comes at.came;
      }

  -- a take with no buffers changes nothing
  refuses_section : (h : History) (told : Numbers) (mark : ℕ → ℕ) (section : List ℕ) (arrival : ℕ) → Reached h told mark
      → Reached (noted (take section arrival 0 0) (refused FrameBuffers) ∷ h) told mark
  refuses_section h told mark section arrival at =
      let burst : Numbers = record told { rows = 20 } in
      record {
        cells = at.cells;
        marks = at.marks;
        run = take_refused_elsewhere h section arrival burst burst at.cells at.marks [] [] [] [] FrameBuffers at.run refl
            (first_refuses (take_rules 1 (table_of burst [] []) section 0 0) FrameBuffers refl, (refl, refl, refl));
        marks_are = at.marks_are;
        came = at.came;
      }

  -- before any call, a start
  just_started : Reached (noted (start 0 3840 3840) done ∷ []) (started 20) (λ i. 0)
  just_started = begins [] (world [] [] unstarted) (new [] []) 3840 refl

-- what a close that fills all rows finds in the ledger, and what it leaves for read-outs that see these marks
pub record FilledAll (frame : Frame) (h : History) (seen : List ℕ) : Type 0 where
  pub table : Table
  pub ledger : Ledger 1 Repeats twenty_rows (calls h) table
  pub marks : List ℕ
  pub readable : Readable seen frame.cells marks
  pub run : Run 1 Repeats twenty_rows (all_filled ∷ h) (world frame.cells marks (closed_burst closed_at_40 []))

module _ (frame : Frame) (is : frame.datagrams ≡ two_datagrams) (lawful : Lawful 1 Repeats 20 frame) where
  -- the close, where enough is known of each row
  fills : (h : History) (told : Numbers) (mark : ℕ → ℕ) (seen : List ℕ) → Reached frame lawful h told mark → Enough mark → SeenFrom mark seen
      → closed_numbers (record told { rows = 20 }) ≡ closed_at_40
      → FilledAll frame h seen
  fills h told mark seen at enough from numbers =
      let burst : Numbers = record told { rows = 20 } in
      let link = linked 1 Repeats few twenty_rows h _ at.run in
      let agrees = link.agrees frame lawful (all_from frame lawful h at.came) in
      let buffers = rows_filled mark enough frame lawful at.cells at.marks link.cells_size link.marks_size at.marks_are agrees.bytes in
      let passes : Passes (close_rules 1 20 (length at.cells) (length at.marks) 255 20) =
      rw (link.cells_size, link.marks_size) (first_passes (close_rules 1 20 3840 3840 255 20) refl) in
      let step =
      closes h burst at.cells at.marks (replicate 255 0) (replicate 20 0)
      frame.cells (marks_closed at.marks) (replicate 255 0) (replicate 20 1) closed_at_40
      at.run ((passes, (buffers, sym numbers)), tt, tt) in
      record {
        table = table_of burst at.cells at.marks;
        ledger = link.is;
        marks = marks_closed at.marks;
        readable = readable mark seen from frame is lawful at.marks (buffers.marks_size ∙ link.marks_size) at.marks_are;
        run = rw (link.cells_size, link.marks_size) at step;
      }

  -- the premises are met where a read-out is at its end
  meets : {seen marks : List ℕ} (h : History) (front : List ReadOut) (by : Readable seen frame.cells marks)
      → ReadSoFar by h (front ++ (reader seen 40 ∷ [])) → AllFrom 1 20 frame h → MetBy frame h (length front)
  meets h front by run all =
      let link = linked 1 Repeats few twenty_rows h _ run in
      record {
        world = _;
        run = at_its_end by h front [] run;
        table = link.some.0;
        rows = link.rows link.some.0 link.some.1;
        ledger = link.some.1;
        all_from = all;
      }

  -- ---- the first run

  -- the burst is told its part of the end by both sections
  abbrev told_by_both : Numbers
  told_by_both = numbers_after (fields_of check_section) 6 (numbers_after (fields_of second_section) 5 (started 20))

  receives : Reached frame lawful reception told_by_both mark_with_loss
  receives =
      let one = takes_section frame lawful _ _ _ second_section 5 (just_started frame lawful) (second_comes frame is) (lit≤ tt) in
      let same = refuses_section frame lawful _ _ _ check_section 6 one in
      takes_section frame lawful _ _ _ check_section 6 same (check_comes frame is lawful) (lit≤ tt)

  pub repairs : FilledAll frame reception seen_with_loss
  repairs = fills reception told_by_both mark_with_loss seen_with_loss receives enough_with_loss from_with_loss refl

  -- ---- the second run

  -- the last section tells it
  abbrev told_by_last : Numbers
  told_by_last = numbers_after (fields_of second_section) 6 (numbers_after (fields_of first_section) 5 (started 20))

  receives_all : Reached frame lawful full_reception told_by_last mark_without_loss
  receives_all =
      let one = takes_section frame lawful _ _ _ first_section 5 (just_started frame lawful) (first_comes frame is) (lit≤ tt) in
      takes_section frame lawful _ _ _ second_section 6 one (second_comes frame is) (lit≤ tt)

  completes : FilledAll frame full_reception seen_without_loss
  completes = fills full_reception told_by_last mark_without_loss seen_without_loss receives_all enough_without_loss from_without_loss refl

  -- each of the frame's datagrams was in one of its sections
  each_came : (address : ℕ) (datagram : List ℕ) → HasDatagram frame address datagram → Came full_reading address datagram
  each_came address datagram has =
      let Comes : ℕ × List ℕ → Type 0 = λ x. Came full_reading x.0 x.1 in
      let first : Comes (0, first_datagram) = (first_section, ((1, lit< tt, refl), record { is_datagram = refl; address_is = refl; payload_is = refl })) in
      let second : Comes (20, second_datagram) = (second_section, ((0, lit< tt, refl), record { is_datagram = refl; address_is = refl; payload_is = refl })) in
      All-contains Comes (placed_from 0 two_datagrams) (address, datagram)
      (All-cons Comes (0, first_datagram) ((20, second_datagram) ∷ []) first (All-cons Comes (20, second_datagram) [] second (All-nil Comes)))
      (subst (λ ds. Contains (placed_from 0 ds) (address, datagram)) is has)

  -- ---- both

  met_by : Met
  unfolding meets
  met_by =
      let repaired = repairs in
      let read = both_read repaired.readable repaired.run in
      let completed = completes in
      let ended = reader seen_with_loss 40 in
      let next_burst = begins frame lawful history _ (at_its_end repaired.readable reading (ended ∷ []) [] read) 3840 refl in
      record {
        begins = any_begins;
        frame = frame;
        datagrams = is;
        lawful = lawful;
        with_loss = meets reading (ended ∷ []) repaired.readable read (all_from frame lawful reading receives.came);
        goes_on = λ n. still_at_end repaired.readable n read;
        anew = (world next_burst.cells next_burst.marks (open_burst (started 20)), next_burst.run);
        without_loss = meets full_reading [] completed.readable (one_reads completed.readable completed.run) (all_from frame lawful full_reading receives_all.came);
        each_came = each_came;
      }

-- there is a lawful frame of the two
pub the_frame : (frame : Frame) × ((frame.datagrams ≡ two_datagrams) × Lawful 1 Repeats 20 frame)
the_frame =
    let (frame, (is, lawful, _)) = one_frame 1 Repeats (λ word repeats. repeats.is_row) any_begins 20 (lit≤ tt) two_datagrams fits in
    (frame, (is, lawful))

pub met : Met
met = let (frame, (is, lawful)) = the_frame in met_by frame is lawful
