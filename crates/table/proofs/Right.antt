-- The fields of a section that comes from a lawful frame: the frame has what they bring, and ends as they tell.
use Rattle.std.proofs.Common.{◌≡◌, ℕ, ◌+◌, ◌*◌, ◌<◌, ◌≤◌, true, false, List, length, Option, Some, None, sym, ap, ◌∙◌, ◌==◌, arith}
use Rattle.std.proofs.Math.Nat.{add-mul}
use Rattle.std.proofs.lemmas.Bool.{and_parts, leb-true, ltb-true, eqb-true}
use Rattle.std.proofs.lemmas.List.FromFn.{length-map-range_with_len, get_or-map-range_with_len}
use Rattle.std.proofs.lemmas.Option.{cond_some, same_Some}
use Rattle.octets.specs.Octets.{byte}
use Rattle.geometry.specs.Cells.{table_size, cell}
use Rattle.geometry.specs.Ends.{EndsIn}
use Rattle.section.specs.declared.reading.DatagramHeader.{DatagramHeader}
use Rattle.section.specs.declared.reading.CheckHeader.{CheckHeader}
use Rattle.section.specs.declared.reading.Header.TheVariants.{Datagram, Check}
use Rattle.frame.specs.Fields.{Fields}
use Rattle.frame.specs.Frames.{Frame, Lawful, HasDatagram, end_of, column_of}
use Rattle.frame.proofs.Placed.{stands}
use Rattle.table.specs.Telling.{is_datagram, first_cell, carries, payload_end, told_end, told_padding}

-- a cell that is carried stands between the first and the end of the payload
pub inside : (R : ℕ) (g : Fields) (i : ℕ) → carries R g i ≡ true → (first_cell R g ≤ i) × (i < first_cell R g + length g.payload)
inside R g i carried = let parts = and_parts _ _ carried in (leb-true _ _ parts.0, ltb-true _ _ parts.1)

-- what is told of an end is right
abbrev pub EndRight : (end : ℕ) → Option ℕ → Type 0
EndRight end told = (e : ℕ) → told ≡ Some e → e ≡ end

abbrev pub PaddingRight : (R end : ℕ) → Option ℕ → Type 0
PaddingRight R end told = (p : ℕ) → told ≡ Some p → EndsIn R p end

-- the fields g, in a table of R rows, are right for a frame
pub record Right (frame : Frame) (R : ℕ) (g : Fields) : Type 0 where
  pub bytes : (k : ℕ) → k < length g.payload → byte frame.cells (first_cell R g + k) ≡ byte g.payload k
  -- the application cells that they bring are below E
  pub carried : (i : ℕ) → i < table_size R → carries R g i ≡ true → i < end_of frame
  pub reach : is_datagram g.header ≡ true → payload_end g ≤ end_of frame
  pub end : EndRight (end_of frame) (told_end g)
  pub padding : PaddingRight R (end_of frame) (told_padding g)

-- those of a datagram at its address, with table_boundary for the last alone
pub datagram_right : (m R : ℕ) (codeword : List ℕ → Type 0) (frame : Frame) (g : Fields) (h : DatagramHeader) → Lawful m codeword R frame
    → g.header ≡ Datagram h → HasDatagram frame g.timing.address g.payload
    → g.timing.table_boundary ≡ (g.timing.address + length g.payload == end_of frame)
    → Right frame R g
datagram_right m R codeword frame g h lawful is has last =
    let there = stands m R codeword frame g.timing.address g.payload lawful has in
    record {
      bytes = rw is there.bytes;
      carried = λ i in_table carried. let within = rw is at (inside R g i carried) in omega (arith, within.1, there.below);
      reach = λ _. there.below;
      end = λ e told. let this = cond_some _ _ _ (rw is at told) in sym this.1 ∙ eqb-true _ _ (sym last ∙ this.0);
      padding = λ p told. let none : None ≡ Some p = rw is at told in cc;
    }

-- byte k of a column stands in row k
column_byte : (R c k : ℕ) (cells : List ℕ) → k < R → byte cells (c * R + k) ≡ byte (column_of R cells c) k
column_byte R c k cells row = sym (get_or-map-range_with_len (λ r. byte cells (cell R r c)) 0 R k k 0 row (omega arith))

-- those of a check column, with its p
pub column_right : (frame : Frame) (R : ℕ) (g : Fields) (h : CheckHeader) → g.header ≡ Check h → g.timing.address ≡ h.number * R
    → EndsIn R h.padding_columns (end_of frame) → g.payload ≡ column_of R frame.cells (191 + h.number)
    → Right frame R g
column_right frame R g h is address ends column =
    let size : length g.payload ≡ R = ap length column ∙ length-map-range_with_len (λ r. byte frame.cells (cell R r (191 + h.number))) 0 R in
    record {
      bytes = λ k below.
          rw (is, address, column, ← add-mul 191 h.number R) (column_byte R (191 + h.number) k frame.cells (omega (arith, below, size)));
      carried = λ i in_table carried. let within = rw is at (inside R g i carried) in absurd (omega (arith, within.0, in_table));
      reach = λ of_datagram. let not : false ≡ true = rw is at of_datagram in cc;
      end = λ e told. let none : None ≡ Some e = rw is at told in cc;
      padding = λ p told. let this : Some h.padding_columns ≡ Some p = rw is at told in rw (sym (same_Some _ _ this)) ends;
    }
