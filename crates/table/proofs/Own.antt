-- A section that comes from a lawful frame is admitted by each table that agrees with that frame.
use Rattle.std.proofs.Common.{◌≡◌, ℕ, ◌*◌, ◌≤◌, eqb, ltb, leb, List, refl, sym, ap, ◌∙◌}
use Rattle.std.proofs.lemmas.Bool.{and_parts, eqb-true}
use Rattle.refusal.specs.declared.Refusal.TheVariants.{Field}
use Rattle.refusal.specs.Rules.{Passes, when}
use Rattle.refusal.proofs.Order.{when_not_none, or_else_none}
use Rattle.section.specs.declared.reading.DatagramHeader.{DatagramHeader}
use Rattle.section.specs.declared.reading.CheckHeader.{CheckHeader}
use Rattle.section.specs.declared.reading.Header.{Header}
use Rattle.section.specs.declared.reading.Header.TheVariants.{Datagram, Check}
use Rattle.section.specs.Rules.{read_rules}
use Rattle.section.specs.Writing.{write_rules}
use Rattle.section.specs.declared.timing.RealTime.{RealTime}
use Rattle.frame.specs.Fields.{header_of, fields_of}
use Rattle.frame.specs.Frames.{Frame, Lawful}
use Rattle.frame.specs.Sent.{ComesFrom, with_datagram, with_column}
use Rattle.frame.proofs.SectionsRead.{SameHeader, laid_out_reads}
use Rattle.table.specs.Tables.{Table}
use Rattle.table.specs.Rules.{table_rules}
use Rattle.table.specs.Laws.{Agrees}
use Rattle.table.proofs.Right.{Right, datagram_right, column_right}
use Rattle.table.proofs.Admitted.{admitted}

same_datagram : (h : DatagramHeader) (x : Header) → SameHeader (Datagram h) x → (g : DatagramHeader) × (x ≡ Datagram g)
same_datagram h (Datagram g) same = (g, refl)
same_datagram h (Check g) same = absurd same

same_check : (h : CheckHeader) (x : Header) → SameHeader (Check h) x → x ≡ Check h
same_check h (Datagram g) same = absurd same
same_check h (Check g) same = ap Check (sym same)

-- the address of a check column that can be written
column_address : (R m : ℕ) (h : CheckHeader) (t : RealTime) (payload : List ℕ) (room : ℕ) → Passes (write_rules R m (Check h) t payload room) → t.address ≡ h.number * R
column_address R m h t payload room passes =
    let padding = or_else_none (when (ltb 190 h.padding_columns) (Field 3)) _ (or_else_none _ _ (passes.none 0)).0 in
    let order = or_else_none (when (ltb h.last h.number) (Field 6)) _ padding.1 in
    let many = or_else_none (when (leb m h.last) (Field 7)) _ order.1 in
    eqb-true _ _ (and_parts (eqb t.address (h.number * R)) _ (when_not_none _ _ many.1)).0

-- what is read from it is right for the frame
pub own_right : (m R : ℕ) (codeword : List ℕ → Type 0) (frame : Frame) (s : List ℕ) → m ≤ 64 → Lawful m codeword R frame → ComesFrom R m frame s
    → Right frame R (fields_of s)
own_right m R codeword frame s few lawful (with_datagram f h laid_out is has last) =
    let read = laid_out_reads R m few s f laid_out in
    let header = same_datagram h (header_of s) (rw is at read.header) in
    datagram_right m R codeword frame (fields_of s) header.0 lawful header.1 (rw (← read.timing, ← read.payload) at has) (rw (← read.timing, ← read.payload) at last)
own_right m R codeword frame s few lawful (with_column f h laid_out is ends column) =
    let read = laid_out_reads R m few s f laid_out in
    let address = column_address R m h f.timing f.payload 4096 (rw is at laid_out.writable) in
    column_right frame R (fields_of s) h (same_check h (header_of s) (rw is at read.header)) (rw (← read.timing) at address) ends (read.payload ∙ column)

own_reads : (m R : ℕ) (frame : Frame) (s : List ℕ) → m ≤ 64 → ComesFrom R m frame s → Passes (read_rules R m s)
own_reads m R frame s few (with_datagram f h laid_out is has last) = (laid_out_reads R m few s f laid_out).passes
own_reads m R frame s few (with_column f h laid_out is ends column) = (laid_out_reads R m few s f laid_out).passes

-- no rule of 4 to 13 turns it away in a table that agrees with the frame
pub record Admits (m : ℕ) (t : Table) (s : List ℕ) : Type 0 where
  pub reading : Passes (read_rules t.rows m s)
  pub table : Passes (table_rules t (fields_of s))

pub own_admits : (m : ℕ) (codeword : List ℕ → Type 0) (t : Table) (frame : Frame) (s : List ℕ) → m ≤ 64 → Lawful m codeword t.rows frame → Agrees frame t → ComesFrom t.rows m frame s → Admits m t s
own_admits m codeword t frame s few lawful agrees comes = record {
  reading = own_reads m t.rows frame s few comes;
  table = admitted m codeword frame t (fields_of s) lawful agrees (own_right m t.rows codeword frame s few lawful comes);
}
