-- The digits are written over the last of the blanks that were appended.
use Rattle.std.proofs.Common.{rules, ◌≡◌, ◌+◌, ◌≤◌, [], ◌++◌, length, replicate, decimal, ℕ, ◌-◌, List, take, drop, sym, ap, ◌∙◌, arith, max, append_assoc, take_all}
use Rattle.std.proofs.Math.Seq.{take-append-add}
use Rattle.std.proofs.Math.ListN.{drop_of_length-le}
use Rattle.std.specs.List.{refill}
use Rattle.std.proofs.lemmas.List.{take-append-drop, take-replicate, length-replicate, append-nil, length-append}
use Rattle.stream.specs.Columns.{right_aligned}
use Rattle.stream.proofs.columns.Line.decimal.Goals as goal

-- digits over the last of so many blanks: what stands there is the number with the blanks in front of it
over_blanks : (before : List ℕ) (columns width n start : ℕ) (blank written : List ℕ) → width ≡ max columns (length (decimal n))
    → blank ≡ before ++ replicate width 32 → start + length (decimal n) ≡ length blank → take start written ≡ take start blank → drop start written ≡ decimal n
    → written ≡ before ++ right_aligned columns n
over_blanks before columns width n start blank written is_width is_blank sum front digits =
    let len : length (replicate {A = ℕ} width 32) ≡ width = length-replicate width _ in
    let size : length blank ≡ length before + width = ap length is_blank ∙ length-append before (replicate width 32) ∙ ap (λ (k : ℕ). length before + k) len in
    let at : start ≡ length before + (columns - length (decimal n)) = omega arith in
    let less : columns - length (decimal n) ≤ width = omega arith in
    let blanks : take start blank ≡ before ++ replicate (columns - length (decimal n)) 32
    = rw (is_blank, at) (take-append-add before (replicate width 32) (columns - length (decimal n)) ∙ ap (λ (xs : List ℕ). before ++ xs) (take-replicate (columns - length (decimal n)) width _ less)) in
    sym (take-append-drop start written) ∙ rw (front, digits, blanks) (append_assoc before (replicate (columns - length (decimal n)) 32) (decimal n))

-- what is written back in full is all that is there
refilled : (items buffer : List ℕ) → length buffer ≡ length items → refill (length items) items buffer ≡ buffer
refilled items buffer same =
    let none : drop (length buffer) items ≡ [] = drop_of_length-le items (omega arith) in
    rw (none, append-nil buffer) (take_all _ buffer (omega arith))

pub returns-clause-written : goal.returns-clause-written
returns-clause-written c =
    let items = c.self.inside.text.items in
    let buffer = c.write_digits.new.buf in
    let blank : items ≡ c.args.self.now ++ replicate c.max-width.result 32 = search rules in
    let front : take c.write_digits.result buffer ≡ take c.write_digits.result items = search rules in
    let held : length c.as_mut_slice.result.now ≤ c.len-end.result = search rules in
    let none : drop c.len-end.result c.as_mut_slice.result.now ≡ [] = drop_of_length-le _ held in
    let digits : drop c.write_digits.result buffer ≡ decimal c.args.number
    = c.write_digits.ensures.written ∙ ap (λ (xs : List ℕ). decimal c.args.number ++ xs) none ∙ append-nil (decimal c.args.number) in
    let same : length buffer ≡ length items = search rules in
    refilled items buffer same
    ∙ over_blanks c.args.self.now c.args.columns c.max-width.result c.args.number c.write_digits.result items buffer (search rules) blank (search rules) front digits
