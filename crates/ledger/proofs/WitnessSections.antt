-- The frame of the witness, and that its three sections come from it.
use Rattle.std.proofs.Common.{◌≡◌, ℕ, ◌+◌, ◌<◌, true, false, ltb, lit≤, lit<, List, [], ◌∷◌, length, ◌==◌, None, refl, sym, ap, ◌∙◌, subst, arith}
use Rattle.std.specs.List.{Contains, list_all}
use Rattle.std.proofs.lemmas.Bool.{ltb-true}
use Rattle.std.proofs.lemmas.List.{get_or_append_left}
use Rattle.std.proofs.lemmas.List.Elements.{All-nil, All-cons, All-contains}
use Rattle.std.proofs.lemmas.List.FromFn.{get_or-map-range_with_len, fill_by_all}
use Rattle.std.proofs.lemmas.List.Sums.{AllPass-from_list_all}
use mathlib.Core.Bool.{xor}
use Rattle.octets.specs.Octets.{Bytes, byte}
use Rattle.crc32.specs.Crc.{crc_bit, crc_bits, crc_byte, crc_from, crc}
use Rattle.geometry.specs.Cells.{cell}
use Rattle.geometry.specs.Ends.{EndsIn}
use Rattle.refusal.specs.Rules.{first}
use Rattle.refusal.proofs.Order.{first_passes}
use Rattle.section.specs.Datagrams.{whole}
use Rattle.section.specs.Layout.{written}
use Rattle.section.specs.Writing.{write_rules}
use Rattle.frame.specs.Fields.{fields_of}
use Rattle.frame.specs.Frames.{Frame, Fit, Lawful, laid, placed_from, row_of, column_of}
use Rattle.frame.specs.Sent.{written_from, LaidOut, ComesFrom, with_datagram, with_column}
use Rattle.frame.proofs.SectionsRead.{written_laid_out}
use Rattle.ledger.specs.Witness.{Repeats, first_datagram, second_datagram, first_section, second_section, check_section}

-- bytes, by a test of each
tested : (xs : List ℕ) → list_all (λ b. ltb b 256) xs ≡ true → Bytes xs
tested xs is k below = ltb-true _ 256 (AllPass-from_list_all (λ b. ltb b 256) xs is k 0 below)

abbrev pub two_datagrams : List (List ℕ)
two_datagrams = first_datagram ∷ second_datagram ∷ []

pub fits : Fit 20 two_datagrams
fits = record {
  some = λ none. absurd (omega (arith, ap length none));
  each_whole = λ d has. All-contains (λ e. whole e ≡ true) two_datagrams d (AllPass-from_list_all whole two_datagrams refl) has;
  bytes = λ d has.
      All-contains Bytes two_datagrams d
      (All-cons Bytes first_datagram (second_datagram ∷ []) (tested first_datagram refl) (All-cons Bytes second_datagram [] (tested second_datagram refl) (All-nil Bytes))) has;
  fit = lit≤ tt;
}

-- a section is laid out as one with the fields that stand in it, where it is written from them
laid_out_so : (s : List ℕ) → written_from (fields_of s) ≡ s
    → list_all (λ b. ltb b 256) s ≡ true → list_all (λ b. ltb b 256) (fields_of s).payload ≡ true
    → first (write_rules 20 1 (fields_of s).header (fields_of s).timing (fields_of s).payload 4096) ≡ None
    → LaidOut 20 1 s (fields_of s)
laid_out_so s is bytes payload_bytes passes =
    let f = fields_of s in
    subst (λ x. LaidOut 20 1 x f) is
    (written_laid_out 20 1 f (subst Bytes (sym is) (tested s bytes)) (tested f.payload payload_bytes) (first_passes (write_rules 20 1 f.header f.timing f.payload 4096) passes))

first_laid_out : LaidOut 20 1 first_section (fields_of first_section)
unfolding written xor crc_bit crc_bits crc_byte crc_from crc
first_laid_out = laid_out_so first_section refl refl refl refl

second_laid_out : LaidOut 20 1 second_section (fields_of second_section)
unfolding written xor crc_bit crc_bits crc_byte crc_from crc
second_laid_out = laid_out_so second_section refl refl refl refl

check_laid_out : LaidOut 20 1 check_section (fields_of check_section)
unfolding written xor crc_bit crc_bits crc_byte crc_from crc
check_laid_out = laid_out_so check_section refl refl refl refl

-- the byte in column c of a row of 20
pub in_row : (cells : List ℕ) (r c : ℕ) → c < 192 → byte (row_of 1 20 cells r) c ≡ byte cells (cell 20 r c)
in_row cells r c below = get_or-map-range_with_len (λ c. byte cells (cell 20 r c)) 0 192 c c 0 below (omega arith)

module _ (frame : Frame) (is : frame.datagrams ≡ two_datagrams) where
  pub first_comes : ComesFrom 20 1 frame first_section
  first_comes =
      with_datagram (fields_of first_section) _ first_laid_out refl
      (subst (λ ds. Contains (placed_from 0 ds) (0, first_datagram)) (sym is) (0, lit< tt, refl))
      (subst (λ ds. false ≡ (0 + length first_datagram == length (laid ds))) (sym is) refl)

  pub second_comes : ComesFrom 20 1 frame second_section
  second_comes =
      with_datagram (fields_of second_section) _ second_laid_out refl
      (subst (λ ds. Contains (placed_from 0 ds) (20, second_datagram)) (sym is) (1, lit< tt, refl))
      (subst (λ ds. true ≡ (20 + length second_datagram == length (laid ds))) (sym is) refl)

  module _ (lawful : Lawful 1 Repeats 20 frame) where
    -- the byte of a cell below E
    pub laid_at : (a : ℕ) → a < 40 → byte frame.cells a ≡ byte (laid two_datagrams) a
    laid_at a below = lawful.laid_out a (rw is below) ∙ ap (λ ds. byte (laid ds) a) is

    -- column 0 holds the first datagram
    pub first_byte : (r : ℕ) → r < 20 → byte frame.cells (cell 20 r 0) ≡ byte first_datagram r
    first_byte r below =
        let here : cell 20 r 0 ≡ r = omega arith in
        ap (byte frame.cells) here ∙ laid_at r (omega arith) ∙ get_or_append_left first_datagram second_datagram 0 r below

    -- and so does the check column
    check_byte : (r : ℕ) → r < 20 → byte frame.cells (cell 20 r 191) ≡ byte first_datagram r
    check_byte r below =
        sym (in_row frame.cells r 191 (lit< tt)) ∙ (lawful.codewords r below).check ∙ in_row frame.cells r 0 (lit< tt) ∙ first_byte r below

    check_column : first_datagram ≡ column_of 20 frame.cells 191
    check_column = fill_by_all (λ r. byte frame.cells (cell 20 r 191)) first_datagram 20 0 refl (λ r below. sym (check_byte r below))

    pub check_comes : ComesFrom 20 1 frame check_section
    check_comes =
        with_column (fields_of check_section) _ check_laid_out refl
        (subst (λ ds. EndsIn 20 189 (length (laid ds))) (sym is) (lit< tt, lit≤ tt)) check_column
