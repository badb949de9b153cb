-- What a close makes of a table that agrees with a lawful frame: the frame's own rows agree with the table's, so none is torn, each
-- known byte is still known and right, and each start is still one.
use Rattle.std.proofs.Common.{◌≡◌, ℕ, ◌+◌, ◌<◌, List, length, Option, Some, sym, ◌∙◌, ⊎_elim, arith}
use Rattle.std.proofs.lemmas.Bool.{cases_lt}
use Rattle.std.proofs.lemmas.List.{get_or_past}
use Rattle.std.proofs.lemmas.List.FromFn.{get_or-map-range_with_len}
use Rattle.std.proofs.lemmas.Option.{none-some}
use Rattle.octets.specs.Octets.{byte}
use Rattle.geometry.specs.Cells.{frame_size, cell, width}
use Rattle.frame.specs.Fields.{Fields}
use Rattle.frame.specs.Frames.{Frame, Lawful, row_of}
use Rattle.table.specs.Tables.{Table}
use Rattle.table.specs.Bursts.{Numbers, known_at, start_at, table_of}
use Rattle.table.specs.Rows.{AgreesInRow}
use Rattle.table.specs.Closing.{Closed}
use Rattle.table.specs.Laws.{Agrees}
use Rattle.ledger.specs.Ledgers.{Settled}
use Rattle.ledger.specs.Found.{Has}
use Rattle.ledger.proofs.Brought.{HasCarried}
use Rattle.ledger.proofs.Rows.{by_rows, row_closes, row_starts, agrees_still, known_still}

-- a known cell has a mark
known_below : (cells marks : List ℕ) (i b : ℕ) → known_at cells marks i ≡ Some b → i < length marks
known_below cells marks i b is =
    ⊎_elim (λ below. below) (λ past. absurd (none-some b (rw (get_or_past marks i 0 past) at is))) (cases_lt i (length marks))

module _ (m : ℕ) (codeword : List ℕ → Type 0) (frame : Frame) (burst : Numbers) (cells marks : List ℕ)
    (lawful : Lawful m codeword burst.rows frame) (agrees : Agrees frame (table_of burst cells marks)) (size : length marks ≡ frame_size m burst.rows) where
  abbrev R : ℕ
  R = burst.rows

  abbrev at : ℕ → Option ℕ
  at = known_at cells marks

  -- row r of the frame
  abbrev own : ℕ → List ℕ
  own r = row_of m R frame.cells r

  own_byte : (r c : ℕ) → c < width m → byte (own r) c ≡ byte frame.cells (cell R r c)
  own_byte r c below = get_or-map-range_with_len (λ c. byte frame.cells (cell R r c)) 0 (width m) c c 0 below (omega arith)

  own_agrees : (r : ℕ) → r < R → AgreesInRow m codeword R at r (own r)
  own_agrees r below = record {
    is_codeword = lawful.codewords r below;
    same = λ c b inside is. own_byte r c inside ∙ agrees.bytes (cell R r c) b is;
  }

  -- the ledger keeps what it has of a datagram
  pub settled_carried : (after : Table) → Settled m codeword (table_of burst cells marks) after → (f : Fields) → HasCarried (table_of burst cells marks) f → HasCarried after f
  settled_carried after settled f has = record {
    start = settled.starts f.timing.address ∙ has.start;
    bytes = λ k below.
        let (b, is) = has.bytes k below in
        by_rows m R (λ i. Has (table_of burst cells marks) i → Has after i)
        (λ r below c inside.
        let row = settled.each_row r below in
        known_still m codeword R at r after.at row.0 row.1 (own r) (own_agrees r below) c inside)
        (f.timing.address + k) (omega (arith, size, known_below cells marks _ b is)) (b, is);
  }

  -- and the buffers hold what is right, with the same starts
  module _ (cells_after marks_after scratch_after names_after : List ℕ) (buffers : Closed m codeword R cells marks cells_after marks_after scratch_after names_after) where
    pub closed_bytes : (i b : ℕ) → known_at cells_after marks_after i ≡ Some b → byte frame.cells i ≡ b
    closed_bytes i b is =
        by_rows m R (λ i. (b : ℕ) → known_at cells_after marks_after i ≡ Some b → byte frame.cells i ≡ b)
        (λ r below c inside b is.
        let row = buffers.each_row r below in
        let settled = row_closes m codeword R cells marks cells_after marks_after r row.0 row.1.1 in
        let still = agrees_still m codeword R at r (known_at cells_after marks_after) row.0 settled (own r) (own_agrees r below) in
        sym (own_byte r c inside) ∙ still.same c b inside is)
        i (omega (arith, size, buffers.marks_size, known_below cells_after marks_after i b is)) b is

    pub closed_starts : (i : ℕ) → start_at marks_after i ≡ start_at marks i
    closed_starts i =
        ⊎_elim
        (by_rows m R (λ i. start_at marks_after i ≡ start_at marks i)
        (λ r below c inside.
        let row = buffers.each_row r below in
        row_starts m codeword R cells marks cells_after marks_after r row.0 row.1.1 (own r) (own_agrees r below) c inside)
        i)
        (λ past. rw (get_or_past marks i 0 (omega (arith, past, size)), get_or_past marks_after i 0 (omega (arith, past, size, buffers.marks_size))))
        (cases_lt i (frame_size m R))
