-- What a receiver promises after any list of calls of start, take, close, open and next, refused ones included: it keeps the ledger,
-- and hands out what it has.
use Rattle.std.specs.Prelude.{◌≡◌, ℕ, ◌/◌, ◌<◌, ◌≤◌, ◌↔◌, true, List, [], ◌∷◌, length, Option, Some}
use Rattle.std.specs.List.{Contains}
use Rattle.octets.specs.Octets.{byte}
use Rattle.geometry.specs.Cells.{width, table_size, frame_size, cell}
use Rattle.refusal.specs.declared.Refusal.{Refusal}
use Rattle.refusal.specs.Refusals.{number_of}
use Rattle.refusal.specs.Rules.{Verdict, Refused, Passes}
use Rattle.rowcode.specs.Answers.{number_of as name_of}
use Rattle.rowcode.specs.declared.Mended.TheVariants.{Filled, Torn, Open}
use Rattle.frame.specs.Fields.{fields_of}
use Rattle.frame.specs.Frames.{Frame, Lawful, placed_from, HasDatagram}
use Rattle.frame.specs.Sent.{ComesFrom}
use Rattle.table.specs.Tables.{Table}
use Rattle.table.specs.Bursts.{known_at}
use Rattle.table.specs.Telling.{is_datagram}
use Rattle.table.specs.Rules.{take_rules}
use Rattle.table.specs.Rows.{OnlyAgrees, OneAgrees, NoneAgrees, SeveralAgree}
use Rattle.reading.specs.Reading.{Placed}
use Rattle.ledger.specs.Calls.{take, close, next, Answer, done, closed, handed, at_end, refused, History, noted, calls, begun, taken, asked, handed_out}
use Rattle.ledger.specs.Ledgers.{Ledger}
use Rattle.ledger.specs.Found.{Due}
use Rattle.ledger.specs.Runs.{World, Run}

-- the known cells are exactly those of the ledger, with its bytes
abbrev pub KnowsTheLedger : (m : ℕ) → World → Table → Type 0
KnowsTheLedger m w t = (i : ℕ) → i < frame_size m t.rows → known_at w.cells w.marks i ≡ t.at i

-- Row r after a close, by what the ledger had there before: its name says how many codewords agree with that, and a filled row is
-- known whole and holds the one that does.
pub record Named (m : ℕ) (codeword : List ℕ → Type 0) (before : Table) (w : World) (r name : ℕ) : Type 0 where
  pub filled : (name ≡ name_of Filled) ↔ OneAgrees m codeword before.rows before.at r
  pub torn : (name ≡ name_of Torn) ↔ NoneAgrees m codeword before.rows before.at r
  pub left_open : (name ≡ name_of Open) ↔ SeveralAgree m codeword before.rows before.at r
  pub holds : (word : List ℕ) → OnlyAgrees m codeword before.rows before.at r word
      → (c : ℕ) → c < width m → known_at w.cells w.marks (cell before.rows r c) ≡ Some (byte word c)

-- every section taken since the last start that was not refused came from this frame
abbrev pub AllFrom : (m R : ℕ) → Frame → History → Type 0
AllFrom m R frame h = (section : List ℕ) → Contains (taken h) section → ComesFrom R m frame section

-- a call answers as these rules have it
abbrev pub AnswersBy : List Verdict → Answer → Type 0
AnswersBy rules done = Passes rules
AnswersBy rules (closed names) = ⊥
AnswersBy rules (handed datagram) = ⊥
AnswersBy rules at_end = ⊥
AnswersBy rules (refused e) = Refused rules e

-- each address is above those before it: so the addresses rise, and none comes twice
abbrev pub Rising : List Placed → Type 0
Rising [] = Unit {0}
Rising (x ∷ xs) = ((y : Placed) → Contains xs y → x.0 < y.0) × Rising xs

-- what was handed out: by rising address and once each, exactly those datagrams of the frame that are found and there whole
pub record HandsOutDue (frame : Frame) (t : Table) (datagrams : List Placed) : Type 0 where
  pub rising : Rising datagrams
  pub exactly : (address : ℕ) (datagram : List ℕ) → Contains datagrams (address, datagram) ↔ Due frame t address datagram

-- what holds once the calls h, the latest first, have led to the world w
pub record Kept (m : ℕ) (codeword : List ℕ → Type 0) (sizes : ℕ → Option ℕ) (h : History) (w : World) : Type 0 where
  -- from the first start that is not refused on there is a ledger; both buffers have a byte for each cell of its frame, and the known
  -- cells are exactly the ledger's
  pub ledger : begun h ≡ true → (t : Table) × Ledger m codeword sizes (calls h) t
  pub sizes_are : (t : Table) → Ledger m codeword sizes (calls h) t
      → (length w.cells ≡ frame_size m t.rows) × (length w.marks ≡ frame_size m t.rows)
  pub known : (t : Table) → Ledger m codeword sizes (calls h) t → KnowsTheLedger m w t
  -- take answers as its rules, read on the ledger, have it
  pub answered : (before : History) (section : List ℕ) (arrival cells marks : ℕ) (answer : Answer) (t : Table)
      → h ≡ noted (take section arrival cells marks) answer ∷ before → Ledger m codeword sizes (calls before) t
      → AnswersBy (take_rules m t section cells marks) answer
  -- after a close that was not refused each row is named by the codewords that agree with what the ledger had there before
  pub named : (before : History) (cells marks scratch size : ℕ) (names : List ℕ) (t : Table)
      → h ≡ noted (close cells marks scratch size) (closed names) ∷ before → Ledger m codeword sizes (calls before) t
      → (length names ≡ t.rows) × ((r : ℕ) → r < t.rows → Named m codeword t w r (byte names r))
  -- if all that was taken came from one lawful frame, take refuses no section of it under 4 to 13 (the numbers of refusals are in the
  -- crate `refusal`): only 2 is left
  pub welcome : (before : History) (section : List ℕ) (arrival cells marks : ℕ) (e : Refusal) (t : Table) (frame : Frame)
      → h ≡ noted (take section arrival cells marks) (refused e) ∷ before → Ledger m codeword sizes (calls before) t
      → Lawful m codeword t.rows frame → AllFrom m t.rows frame before → ComesFrom t.rows m frame section
      → number_of e ≡ 2
  -- and when next answers end, for the first time or again, that read-out has handed out what is due
  pub hands_out_due : (before : History) (k : ℕ) (t : Table) (frame : Frame)
      → h ≡ noted (next k) at_end ∷ before → Ledger m codeword sizes (calls before) t
      → Lawful m codeword t.rows frame → AllFrom m t.rows frame before
      → HandsOutDue frame t (handed_out k before)
  -- whatever was taken: next answers end on a read-out at its call number 191×R div 20 + 1, if not before, and at all later ones
  pub ends : (before : History) (k : ℕ) (answer : Answer) (t : Table)
      → h ≡ noted (next k) answer ∷ before → Ledger m codeword sizes (calls before) t
      → table_size t.rows / 20 ≤ asked k before → answer ≡ at_end

-- It holds of every run, for any map from size codes to rows.
abbrev pub KeepsThePromise : (m : ℕ) → (codeword : List ℕ → Type 0) → Type 0
KeepsThePromise m codeword =
    (sizes : ℕ → Option ℕ) (h : History) (w : World) → Run m codeword sizes h w → Kept m codeword sizes h w

-- a section carries this datagram at this address
pub record CarriesDatagram (section : List ℕ) (address : ℕ) (datagram : List ℕ) : Type 0 where
  pub is_datagram : is_datagram (fields_of section).header ≡ true
  pub address_is : (fields_of section).timing.address ≡ address
  pub payload_is : (fields_of section).payload ≡ datagram

-- one of the sections taken since the last start that was not refused does
abbrev pub Came : History → (address : ℕ) → (datagram : List ℕ) → Type 0
Came h address datagram = (section : List ℕ) × (Contains (taken h) section × CarriesDatagram section address datagram)

-- What came is handed out: if all that was taken came from one lawful frame, then when next answers end, the read-out has handed out
-- each datagram that was in a section taken since the last start that was not refused, whatever else was lost; and if each of the
-- frame's was, all of them, in their order.
pub record HandsOutWhatCame (frame : Frame) (h : History) (datagrams : List Placed) : Type 0 where
  pub each : (address : ℕ) (datagram : List ℕ) → Came h address datagram → Contains datagrams (address, datagram)
  pub all : ((address : ℕ) (datagram : List ℕ) → HasDatagram frame address datagram → Came h address datagram) → datagrams ≡ placed_from 0 frame.datagrams

-- So it is after every run, whatever the order of the sections, however often one was repeated, and with or without check columns.
abbrev pub LosesNothing : (m : ℕ) → (codeword : List ℕ → Type 0) → Type 0
LosesNothing m codeword =
    (sizes : ℕ → Option ℕ) (h : History) (w : World) (k : ℕ) (t : Table) (frame : Frame)
    → Run m codeword sizes (noted (next k) at_end ∷ h) w → Ledger m codeword sizes (calls h) t
    → Lawful m codeword t.rows frame → AllFrom m t.rows frame h
    → HandsOutWhatCame frame h (handed_out k h)
