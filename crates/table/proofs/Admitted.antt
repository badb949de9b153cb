-- A section whose fields are right for a lawful frame is turned away by neither 12 nor 13 in a table that agrees with that frame.
use Rattle.std.proofs.Common.{◌≡◌, ℕ, ◌+◌, ◌-◌, ◌≤◌, Bool, true, false, ◌&&◌, ltb, List, length, Option, Some, None, refl, sym, ◌∙◌, arith}
use Rattle.std.proofs.lemmas.Bool.{and_from, not_from_true, false_from_ne_true, eq-eqb, lt-ltb, le-ltb, le-leb}
use Rattle.octets.specs.Octets.{byte}
use Rattle.geometry.specs.Cells.{table_size}
use Rattle.geometry.specs.Ends.{EndsIn, ends_in, limit_of}
use Rattle.geometry.proofs.Paddings.{one_padding}
use Rattle.refusal.specs.Rules.{Passes}
use Rattle.refusal.proofs.Order.{first_passes}
use Rattle.frame.specs.Fields.{Fields}
use Rattle.frame.specs.Frames.{Frame, Lawful, end_of}
use Rattle.table.specs.Tables.{Table, limit}
use Rattle.table.specs.Telling.{is_datagram, first_cell, payload_end, told_end, told_padding, padded_from_of, padded_from}
use Rattle.table.specs.Rules.{limit_rule, differs, differs_at, difference_rule, retold, misfit, received_from, goes_against, end_rule_at, end_rule, table_rules}
use Rattle.table.specs.Laws.{Agrees}
use Rattle.table.proofs.Finding.{find_none, any_none}
use Rattle.table.proofs.Right.{EndRight, PaddingRight, Right}

-- what is told rightly leaves room for the datagrams
pub limit_reaches : (R end : ℕ) (e p : Option ℕ) → EndRight end e → PaddingRight R end p → end ≤ table_size R → end ≤ limit_of R e p
limit_reaches R end (Some e) p end_right padding_right fit = omega (arith, end_right e refl)
limit_reaches R end None (Some p) end_right padding_right fit = (padding_right p refl).1
limit_reaches R end None None end_right padding_right fit = fit

-- and makes no cell padding that is below E
pub padded_above : (R end : ℕ) (e p : Option ℕ) → EndRight end e → PaddingRight R end p → (from : ℕ) → padded_from_of R e p ≡ Some from → end ≤ from
padded_above R end (Some e) p end_right padding_right from is = let same = end_right from is in omega (arith, same)
padded_above R end None (Some p) end_right padding_right from is =
    let above = (padding_right p refl).1 in grind (arith, above, is)
padded_above R end None None end_right padding_right from is = cc

-- 12
not_beyond : (datagram : Bool) (reach limit : ℕ) → (datagram ≡ true → reach ≤ limit) → (datagram && ltb limit reach) ≡ false
not_beyond true reach limit below = le-ltb limit reach (below refl)
not_beyond false reach limit below = refl

within_limit : (m : ℕ) (codeword : List ℕ → Type 0) (frame : Frame) (t : Table) (g : Fields) → Lawful m codeword t.rows frame → Agrees frame t → Right frame t.rows g → limit_rule (limit t) g ≡ None
within_limit m codeword frame t g lawful agrees right =
    let room = limit_reaches t.rows (end_of frame) t.end t.padding agrees.end agrees.padding lawful.datagrams.fit in
    rw (not_beyond (is_datagram g.header) (payload_end g) (limit t) (λ datagram. omega (arith, right.reach datagram, room)))

-- 13, first: no byte differs from one that is known
same_byte : (b : ℕ) (known : Option ℕ) → ((c : ℕ) → known ≡ Some c → b ≡ c) → differs b known ≡ false
same_byte b (Some c) same = not_from_true _ (eq-eqb b c (same c refl))
same_byte b None same = refl

no_difference : (frame : Frame) (t : Table) (g : Fields) → Agrees frame t → Right frame t.rows g → difference_rule t g ≡ None
no_difference frame t g agrees right =
    rw (find_none (differs_at t g) 0 (length g.payload) (λ k above below.
    same_byte (byte g.payload k) (t.at (first_cell t.rows g + k)) (λ c known. sym (right.bytes k (omega arith)) ∙ agrees.bytes _ c known)))

-- two numbers told, both right, are one
not_retold : (x y : Option ℕ) → ((a b : ℕ) → x ≡ Some a → y ≡ Some b → a ≡ b) → retold x y ≡ false
not_retold (Some a) (Some b) same = not_from_true _ (eq-eqb a b (same a b refl refl))
not_retold (Some a) None same = refl
not_retold None y same = refl

-- a right E and a right p fit
does_end : (R p end : ℕ) → EndsIn R p end → ends_in R p end ≡ true
does_end R p end is = and_from _ _ (lt-ltb _ _ is.0) (le-leb _ _ is.1)

fits : (R end : ℕ) (e p : Option ℕ) → EndRight end e → PaddingRight R end p → misfit R e p ≡ false
fits R end (Some e) (Some p) end_right padding_right = rw (end_right e refl) (not_from_true _ (does_end R p end (padding_right p refl)))
fits R end (Some e) None end_right padding_right = refl
fits R end None p end_right padding_right = refl

-- nothing was received at E or above it
none_received : (frame : Frame) (t : Table) (from : ℕ) → Agrees frame t → end_of frame ≤ from → received_from t from ≡ false
none_received frame t from agrees above =
    any_none t.received from (table_size t.rows - from) (λ i more less. false_from_ne_true _ (λ received.
    omega (arith, agrees.received i (omega arith) received, above)))

-- 13, second
end_fits : (t : Table) (g : Fields) (told : Option ℕ) → ((from : ℕ) → told ≡ Some from → goes_against t g from ≡ false) → end_rule_at t g told ≡ None
end_fits t g (Some from) fits = rw (fits from refl)
end_fits t g None fits = refl

no_other_end : (frame : Frame) (t : Table) (g : Fields) → Agrees frame t → Right frame t.rows g → end_rule t g ≡ None
no_other_end frame t g agrees right =
    let end = end_of frame in
    let same_end = not_retold t.end (told_end g) (λ a b before now. agrees.end a before ∙ sym (right.end b now)) in
    let same_padding = not_retold t.padding (told_padding g) (λ a b before now. one_padding t.rows b a end (right.padding b now) (agrees.padding a before)) in
    let fits_before = fits t.rows end t.end (told_padding g) agrees.end right.padding in
    let fits_now = fits t.rows end (told_end g) t.padding right.end agrees.padding in
    end_fits t g (padded_from t.rows g) (λ from told.
    let none = none_received frame t from agrees (padded_above t.rows end (told_end g) (told_padding g) right.end right.padding from told) in
    rw (same_end, same_padding, fits_before, fits_now, none))

-- fields that are right for the frame pass both
pub admitted : (m : ℕ) (codeword : List ℕ → Type 0) (frame : Frame) (t : Table) (g : Fields) → Lawful m codeword t.rows frame → Agrees frame t → Right frame t.rows g → Passes (table_rules t g)
admitted m codeword frame t g lawful agrees right =
    first_passes (table_rules t g) (rw (within_limit m codeword frame t g lawful agrees right, no_difference frame t g agrees right, no_other_end frame t g agrees right))
