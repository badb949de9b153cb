-- The ledger: what can be known of a table by the arguments of the calls alone, with no look at what a buffer holds or what a call
-- answered. It is a table: a byte or nothing for each cell, what was carried, the starts, E and p.
use Rattle.std.specs.Prelude.{◌≡◌, ℕ, ◌<◌, List, ◌∷◌, Option, Some, None}
use Rattle.octets.specs.Octets.{byte}
use Rattle.geometry.specs.Cells.{width, cell}
use Rattle.refusal.specs.declared.Refusal.{Refusal}
use Rattle.refusal.specs.Rules.{Refused, Passes}
use Rattle.rowcode.specs.declared.Mended.{Mended}
use Rattle.rowcode.specs.declared.Mended.TheVariants.{Filled, Torn, Open}
use Rattle.frame.specs.Fields.{fields_of}
use Rattle.table.specs.Tables.{Table, blank}
use Rattle.table.specs.Rules.{start_rules, take_rules}
use Rattle.table.specs.Taking.{Entered}
use Rattle.table.specs.Rows.{OnlyAgrees, NoneAgrees, SeveralAgree}
use Rattle.table.specs.Closing.{close_rules}
use Rattle.ledger.specs.Calls.{Call, start, take, close, «open», next}

-- row r holds this, by its columns
abbrev pub RowKnows : (m R : ℕ) → (at : ℕ → Option ℕ) → (r : ℕ) → (ℕ → Option ℕ) → Type 0
RowKnows m R at r known = (c : ℕ) → c < width m → at (cell R r c) ≡ known c

-- what a close makes of row r: the only codeword that agrees with its bytes; nothing, if none agrees; itself, if several do
abbrev pub RowSettled : (m : ℕ) → (codeword : List ℕ → Type 0) → (R : ℕ) → (before after : ℕ → Option ℕ) → (r : ℕ) → Mended → Type 0
RowSettled m codeword R before after r Filled =
    (word : List ℕ) × (OnlyAgrees m codeword R before r word × RowKnows m R after r (λ c. Some (byte word c)))
RowSettled m codeword R before after r Torn =
    NoneAgrees m codeword R before r × RowKnows m R after r (λ c. None)
RowSettled m codeword R before after r Open =
    SeveralAgree m codeword R before r × RowKnows m R after r (λ c. before (cell R r c))

-- a close: each row by itself; what was carried, and what was told, stays
pub record Settled (m : ℕ) (codeword : List ℕ → Type 0) (t after : Table) : Type 0 where
  pub rows : after.rows ≡ t.rows
  pub each_row : (r : ℕ) → r < t.rows → (answer : Mended) × RowSettled m codeword t.rows t.at after.at r answer
  pub received : (i : ℕ) → after.received i ≡ t.received i
  pub starts : (i : ℕ) → after.starts i ≡ t.starts i
  pub end : after.end ≡ t.end
  pub padding : after.padding ≡ t.padding

-- The ledger after these calls, the latest first. There is none before the first start that is not refused. For m check columns,
-- a set of codewords, and a map from size codes to rows.
pub data Ledger (m : ℕ) (codeword : List ℕ → Type 0) (sizes : ℕ → Option ℕ) : List Call → Table → Type 0 where
  -- each start that is not refused begins it anew
  anew : (calls : List Call) (R code cells marks : ℕ)
      → Passes (start_rules sizes m code cells marks) → sizes code ≡ Some R
      → Ledger m codeword sizes (start code cells marks ∷ calls) (blank R)
  kept_at_start : (calls : List Call) (t : Table) (code cells marks : ℕ) (e : Refusal)
      → Ledger m codeword sizes calls t → Refused (start_rules sizes m code cells marks) e
      → Ledger m codeword sizes (start code cells marks ∷ calls) t
  -- a take that no rule, read on the ledger, refuses enters its section; a refused one changes nothing
  enters : (calls : List Call) (t after : Table) (section : List ℕ) (arrival cells marks : ℕ)
      → Ledger m codeword sizes calls t → Passes (take_rules m t section cells marks) → Entered t (fields_of section) after
      → Ledger m codeword sizes (take section arrival cells marks ∷ calls) after
  kept_at_take : (calls : List Call) (t : Table) (section : List ℕ) (arrival cells marks : ℕ) (e : Refusal)
      → Ledger m codeword sizes calls t → Refused (take_rules m t section cells marks) e
      → Ledger m codeword sizes (take section arrival cells marks ∷ calls) t
  settled : (calls : List Call) (t after : Table) (cells marks scratch names : ℕ)
      → Ledger m codeword sizes calls t → Passes (close_rules m t.rows cells marks scratch names) → Settled m codeword t after
      → Ledger m codeword sizes (close cells marks scratch names ∷ calls) after
  kept_at_close : (calls : List Call) (t : Table) (cells marks scratch names : ℕ) (e : Refusal)
      → Ledger m codeword sizes calls t → Refused (close_rules m t.rows cells marks scratch names) e
      → Ledger m codeword sizes (close cells marks scratch names ∷ calls) t
  -- open and next change nothing
  kept_at_open : (calls : List Call) (t : Table) (cells marks : ℕ)
      → Ledger m codeword sizes calls t
      → Ledger m codeword sizes («open» cells marks ∷ calls) t
  kept_at_next : (calls : List Call) (t : Table) (read_out : ℕ)
      → Ledger m codeword sizes calls t
      → Ledger m codeword sizes (next read_out ∷ calls) t
