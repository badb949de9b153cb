-- What a burst and its buffers hold once a section was taken is the table with that section entered.
use Rattle.std.proofs.Common.{◌≡◌, ℕ, ◌+◌, ◌-◌, ◌<◌, ◌≤◌, Bool, true, false, ◌&&◌, ◌||◌, cond, eqb, ltb, leb, List, length, Option, Some, None, refl, ap, ◌∙◌, arith}
use Rattle.std.proofs.lemmas.Bool.{and_parts, and_from, and_left, and_right, or_parts, both_ways, false_from_ne_true, eqb-true, ltb-true, leb-true, le-leb, lt-ltb, le-ltb, lt-leb}
use Rattle.octets.specs.Octets.{byte}
use Rattle.marks.specs.declared.Mark.{Mark}
use Rattle.marks.specs.declared.Mark.TheVariants.{Unknown, Received, Start, Padding, Filled}
use Rattle.marks.specs.Marks.{mark_byte, mark_of, is_known, is_received, is_start, under_payload}
use Rattle.geometry.specs.Cells.{table_size}
use Rattle.geometry.specs.Ends.{padding_from}
use Rattle.refusal.specs.Rules.{Passes}
use Rattle.refusal.proofs.Order.{when_none, or_else_none}
use Rattle.section.specs.declared.reading.Header.{Header}
use Rattle.section.specs.declared.reading.Header.TheVariants.{Datagram, Check}
use Rattle.frame.specs.Fields.{Fields}
use Rattle.table.specs.Tables.{Table}
use Rattle.table.specs.Telling.{is_datagram, first_cell_of, first_cell, carries, told_end_of, told_padding_of, padded_from_of, padded_from, from_on, pads}
use Rattle.table.specs.Rules.{difference_rule, goes_against, received_from, end_rule_at, end_rule, table_rules}
use Rattle.table.specs.Bursts.{Numbers, table_of}
use Rattle.table.specs.Taking.{Took, Stored, Entered}
use Rattle.table.proofs.Finding.{none_from_any}

-- ---- marks

-- under a payload each cell is received, and the starts are those that were
under_received : (m : Mark) → is_received (mark_of (mark_byte (under_payload m))) ≡ true
under_received Unknown = refl
under_received Received = refl
under_received Start = refl
under_received Padding = refl
under_received Filled = refl

under_start : (m : Mark) → is_start (mark_of (mark_byte (under_payload m))) ≡ is_start m
under_start Unknown = refl
under_start Received = refl
under_start Start = refl
under_start Padding = refl
under_start Filled = refl

-- a cell that was received is known, and a start was received
received_known : (m : Mark) → is_received m ≡ true → is_known m ≡ true
received_known Unknown received = cc
received_known Received received = refl
received_known Start received = refl
received_known Padding received = refl
received_known Filled received = refl

no_start : (m : Mark) → is_received m ≡ false → is_start m ≡ false
no_start Unknown none = refl
no_start Received none = refl
no_start Start none = cc
no_start Padding none = refl
no_start Filled none = refl

-- the mark of a cell: it is made padding, or carried, perhaps as the first of a datagram
abbrev marked : (padded carried first : Bool) → ℕ → ℕ
marked padded carried first b = cond padded (mark_byte Padding) (cond carried (cond first (mark_byte Start) (mark_byte (under_payload (mark_of b)))) b)

known_after : (padded carried first : Bool) (b c x : ℕ)
    → cond (is_known (mark_of (marked padded carried first b))) (Some (cond padded 0 (cond carried x c))) None
    ≡ cond padded (Some 0) (cond carried (Some x) (cond (is_known (mark_of b)) (Some c) None))
known_after true carried first b c x = refl
known_after false true true b c x = refl
known_after false true false b c x = rw (received_known _ (under_received (mark_of b)))
known_after false false first b c x = refl

received_after : (padded carried first : Bool) (b : ℕ) → (padded ≡ true → carried ≡ false) → (padded ≡ true → is_received (mark_of b) ≡ false)
    → is_received (mark_of (marked padded carried first b)) ≡ (carried || is_received (mark_of b))
received_after true carried first b apart none = rw (apart refl, none refl)
received_after false true true b apart none = refl
received_after false true false b apart none = under_received (mark_of b)
received_after false false first b apart none = refl

start_after : (padded carried first : Bool) (b : ℕ) → (padded ≡ true → carried ≡ false) → (padded ≡ true → is_received (mark_of b) ≡ false) → (carried ≡ false → first ≡ false)
    → is_start (mark_of (marked padded carried first b)) ≡ (first || is_start (mark_of b))
start_after true carried first b apart none within = rw (within (apart refl), no_start (mark_of b) (none refl))
start_after false true true b apart none within = refl
start_after false true false b apart none within = under_start (mark_of b)
start_after false false first b apart none within = rw (within refl)

-- ---- no cell that is made padding was received, or is carried

apart_of : (R : ℕ) (h : Header) (last : Bool) (address size i : ℕ) → from_on R (padded_from_of R (told_end_of h last (address + size)) (told_padding_of h)) i ≡ true
    → (leb (first_cell_of R h address) i && ltb i (first_cell_of R h address + size)) ≡ false
apart_of R (Datagram h) true address size i on = and_right _ _ (le-ltb i (address + size) (leb-true _ _ (and_parts _ _ on).0))
apart_of R (Datagram h) false address size i on = cc
apart_of R (Check h) last address size i on =
    let parts = and_parts (leb (padding_from R h.padding_columns) i) (ltb i (table_size R)) on in
    let below : i < table_size R = ltb-true i (table_size R) parts.1 in
    and_left _ _ (lt-leb (table_size R + address) i (omega (arith, below)))

apart : (R : ℕ) (f : Fields) (i : ℕ) → pads R f i ≡ true → carries R f i ≡ false
apart R f i on = apart_of R f.header f.timing.table_boundary f.timing.address (length f.payload) i on

not_received : (t : Table) (f : Fields) (from : Option ℕ) (i : ℕ) → end_rule_at t f from ≡ None → from_on t.rows from i ≡ true → t.received i ≡ false
not_received t f (Some from) i passes on =
    let parts = and_parts _ _ on in
    let above : from ≤ i = leb-true from i parts.0 in
    let below : i < table_size t.rows = ltb-true i (table_size t.rows) parts.1 in
    let none : received_from t from ≡ false = (or_parts _ (received_from t from) (when_none (goes_against t f from) _ passes)).1 in
    none_from_any t.received from (table_size t.rows - from) i none above (omega arith)
not_received t f None i passes on = cc

-- the first byte of a datagram is carried
first_carried : (R : ℕ) (f : Fields) (i : ℕ) → (is_datagram f.header ≡ true → 0 < length f.payload) → carries R f i ≡ false → (is_datagram f.header && eqb i (first_cell R f)) ≡ false
first_carried R f i some not = false_from_ne_true _ (λ (first : (is_datagram f.header && eqb i (first_cell R f)) ≡ true).
    let parts = and_parts _ _ first in
    let there : i ≡ first_cell R f = eqb-true i (first_cell R f) parts.1 in
    let more : 0 < length f.payload = some parts.0 in
    both_ways (carries R f i) not (and_from _ _ (le-leb (first_cell R f) i (omega arith)) (lt-ltb i (first_cell R f + length f.payload) (omega arith))))

-- a section that neither 12 nor 13 turns away, with some byte in its datagram
pub took_enters : (f : Fields) (arrival : ℕ) (before : Numbers) (cells marks : List ℕ) (after : Numbers) (cells_after marks_after : List ℕ)
    → Took f arrival before cells marks after cells_after marks_after
    → (is_datagram f.header ≡ true → 0 < length f.payload) → Passes (table_rules (table_of before cells marks) f)
    → Entered (table_of before cells marks) f (table_of after cells_after marks_after)
took_enters f arrival before cells marks after cells_after marks_after took some passes =
    let R = before.rows in
    let t = table_of before cells marks in
    let end = (or_else_none (difference_rule t f) (end_rule t f) (passes.none 1)).1 in
    let first = λ (i : ℕ). is_datagram f.header && eqb i (first_cell R f) in
    record {
      rows = ap (λ n. n.rows) took.numbers;
      at = λ i. rw (took.each_mark i, took.each_cell i) (known_after (pads R f i) (carries R f i) (first i) (byte marks i) (byte cells i) (byte f.payload (i - first_cell R f)));
      received = λ i. rw (took.each_mark i) (received_after (pads R f i) (carries R f i) (first i) (byte marks i) (apart R f i) (not_received t f (padded_from R f) i end));
      starts = λ i. rw (took.each_mark i)
          (start_after (pads R f i) (carries R f i) (first i) (byte marks i) (apart R f i) (not_received t f (padded_from R f) i end) (first_carried R f i some));
      end = ap (λ n. n.end) took.numbers;
      padding = ap (λ n. n.padding) took.numbers;
    }

-- ---- the payload stands in its cells

stored_byte : (padded carried : Bool) (x before : ℕ) → padded ≡ false → carried ≡ true → cond padded 0 (cond carried x before) ≡ x
stored_byte padded carried x before not is = rw (not, is)

stored_mark : (padded carried first : Bool) (b : ℕ) → padded ≡ false → carried ≡ true → is_received (mark_of (marked padded carried first b)) ≡ true
stored_mark true carried first b not is = cc
stored_mark false true true b not is = refl
stored_mark false true false b not is = under_received (mark_of b)
stored_mark false false first b not is = cc

carried_at : (R : ℕ) (f : Fields) (k : ℕ) → k < length f.payload → carries R f (first_cell R f + k) ≡ true
carried_at R f k below = and_from _ _ (le-leb (first_cell R f) (first_cell R f + k) (omega arith)) (lt-ltb (first_cell R f + k) (first_cell R f + length f.payload) (omega arith))

not_padded : (R : ℕ) (f : Fields) (i : ℕ) → carries R f i ≡ true → pads R f i ≡ false
not_padded R f i carried = false_from_ne_true _ (λ padded. both_ways (carries R f i) (apart R f i padded) carried)

pub took_stores : (f : Fields) (arrival : ℕ) (before : Numbers) (cells marks : List ℕ) (after : Numbers) (cells_after marks_after : List ℕ)
    → Took f arrival before cells marks after cells_after marks_after → Stored before.rows f cells_after marks_after
took_stores f arrival before cells marks after cells_after marks_after took =
    let R = before.rows in
    let first = first_cell R f in
    record {
      payload = λ k below.
          let carried = carried_at R f k below in
          let back : first + k - first ≡ k = omega arith in
          took.each_cell (first + k)
          ∙ stored_byte (pads R f (first + k)) (carries R f (first + k)) _ _ (not_padded R f (first + k) carried) carried
          ∙ ap (λ j. byte f.payload j) back;
      received = λ k below.
          let carried = carried_at R f k below in
          rw (took.each_mark (first + k)) (stored_mark (pads R f (first + k)) (carries R f (first + k)) _ (byte marks (first + k)) (not_padded R f (first + k) carried) carried);
    }
