-- After the reception of the witness only a repair keeps the promise: as its own close shows, just one codeword agrees with each row,
-- and that begins with the byte that was lost.
use Rattle.std.proofs.Common.{◌≡◌, ℕ, ◌<◌, lit<, List, [], length, replicate, Some, sym, ap, ◌∙◌, arith}
use Rattle.std.proofs.lemmas.List.{ext_get_or, get_or-replicate}
use Rattle.std.proofs.lemmas.Option.{cond_some, none-some, same_Some}
use Rattle.octets.specs.Octets.{byte}
use Rattle.geometry.specs.Cells.{cell}
use Rattle.rowcode.specs.Answers.{number_of as name_of}
use Rattle.rowcode.specs.declared.Mended.TheVariants.{Filled, Open}
use Rattle.frame.specs.Frames.{Frame, Lawful}
use Rattle.table.specs.Tables.{Table}
use Rattle.table.specs.Bursts.{known_at}
use Rattle.table.specs.Rows.{OnlyAgrees}
use Rattle.ledger.specs.Runs.{World, world, closed_burst}
use Rattle.ledger.specs.Law.{Named}
use Rattle.ledger.specs.Witness.{twenty_rows, Repeats, first_datagram, reception, repair, ClosedSo, OnlyRepair}
use Rattle.ledger.proofs.Keeping.{keeps}
use Rattle.ledger.proofs.ShutOut.{rows_named, shuts_out}
use Rattle.ledger.proofs.WitnessSections.{two_datagrams, first_byte}
use Rattle.ledger.proofs.WitnessReadOuts.{closed_at_40, seen_with_loss}
use Rattle.ledger.proofs.WitnessRun.{few, FilledAll, repairs, the_frame}

abbrev filled_names : List ℕ
filled_names = replicate 20 (name_of Filled)

module _ (frame : Frame) (is : frame.datagrams ≡ two_datagrams) (lawful : Lawful 1 Repeats 20 frame) (own : FilledAll frame reception seen_with_loss) where
  -- where the run's close has led
  abbrev left : World
  left = world frame.cells own.marks (closed_burst closed_at_40 [])

  closes : ClosedSo filled_names left
  closes = record {
    cells_size = 3840;
    marks_size = 3840;
    scratch_size = 255;
    names_size = 20;
    kept = keeps 1 Repeats few twenty_rows repair left own.run;
    table = own.table;
    ledger = own.ledger;
  }

  module _ (names : List ℕ) (w : World) (end : ClosedSo names w) where
    abbrev t : Table
    t = end.table

    rows_named_so : (length names ≡ t.rows) × ((r : ℕ) → r < t.rows → Named 1 Repeats t w r (byte names r))
    rows_named_so = rows_named 1 Repeats twenty_rows reception names w end

    -- the run's close would have found that ledger too, and named its rows
    named_there : (20 ≡ t.rows) × ((r : ℕ) → r < t.rows → Named 1 Repeats t left r (byte filled_names r))
    named_there = rows_named 1 Repeats twenty_rows reception filled_names left (record closes { table = t; ledger = end.ledger })

    below_rows : (r : ℕ) → r < 20 → r < t.rows
    below_rows r below = rw (← named_there.0) below

    -- so just one codeword agrees with a row, and it begins with the first datagram's byte
    one_agrees : (r : ℕ) → r < 20 → (word : List ℕ) × (OnlyAgrees 1 Repeats t.rows t.at r word × (byte word 0 ≡ byte first_datagram r))
    one_agrees r below =
        let row = named_there.1 r (below_rows r below) in
        let (word, only) = row.filled.0 (get_or-replicate 20 r 1 0 below) in
        let same = (cond_some _ (byte frame.cells (cell t.rows r 0)) (byte word 0) (row.holds word only 0 (lit< tt))).1 in
        (word, (only, sym same ∙ ap (λ R. byte frame.cells (cell R r 0)) (sym named_there.0) ∙ first_byte frame is lawful r below))

    named : names ≡ filled_names
    named =
        ext_get_or 0 names filled_names (rows_named_so.0 ∙ sym named_there.0)
        (λ r inside.
        let below : r < 20 = omega (arith, inside, rows_named_so.0, named_there.0) in
        let (word, (only, _)) = one_agrees r below in
        (rows_named_so.1 r (below_rows r below)).filled.1 (word, only) ∙ sym (get_or-replicate 20 r 1 0 below))

    repaired : (r : ℕ) → r < 20 → known_at w.cells w.marks r ≡ Some (byte first_datagram r)
    repaired r below =
        let (word, (only, first)) = one_agrees r below in
        let here : cell t.rows r 0 ≡ r = omega arith in
        ap (known_at w.cells w.marks) (sym here) ∙ (rows_named_so.1 r (below_rows r below)).holds word only 0 (lit< tt) ∙ ap Some first

  only_repair_by : OnlyRepair
  only_repair_by = record {
    world = left;
    run = own.run;
    repairs = closes;
    named = named;
    repaired = repaired;
    every_row_open = λ w end. absurd (omega (arith, ap (λ names. byte names 0) (named (replicate 20 (name_of Open)) w end)));
    filled_with_zeros = λ names w end zeros. absurd (omega (arith, same_Some 0 0x45 (sym (zeros 0 (lit< tt)) ∙ repaired names w end 0 (lit< tt))));
    only_row_0 = λ names w end unknown. none-some 0x00 (sym (unknown 1 (lit< tt) (lit< tt)) ∙ repaired names w end 1 (lit< tt));
    any_row = shuts_out 1 Repeats;
  }

pub only_repair : OnlyRepair
only_repair = let (frame, (is, lawful)) = the_frame in only_repair_by frame is lawful (repairs frame is lawful)
