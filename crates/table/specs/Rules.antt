-- When a table turns a section away that passed the rules of reading: 12 and 13, and the order of all rules of take.
use Rattle.std.specs.Prelude.{ℕ, ◌+◌, ◌-◌, Bool, false, not, ◌&&◌, ◌||◌, List, [], ◌∷◌, ◌++◌, length, Option, Some, None, max, option_map, find, ◌==◌, nat_lt}
use Rattle.std.specs.List.{range_with_len, list_any}
use Rattle.octets.specs.Octets.{byte}
use Rattle.geometry.specs.Cells.{table_size}
use Rattle.geometry.specs.Ends.{ends_in}
use Rattle.geometry.specs.Sizes.{size_rule, buffers_rule}
use Rattle.refusal.specs.declared.Refusal.TheVariants.{BeyondLimit, Contradiction}
use Rattle.refusal.specs.Rules.{Verdict, when, or_else}
use Rattle.section.specs.Rules.{read_rules}
use Rattle.frame.specs.Fields.{Fields, fields_of}
use Rattle.table.specs.Tables.{Table, limit}
use Rattle.table.specs.Telling.{is_datagram, first_cell, payload_end, told_end, told_padding, padded_from}

-- 12: a datagram passes the limit; seen at the larger of its address and the limit
abbrev pub limit_rule : (limit : ℕ) → Fields → Verdict
limit_rule limit f =
    when (is_datagram f.header && nat_lt limit (payload_end f)) (BeyondLimit (max f.timing.address limit))

-- a byte is not what is known of its cell
abbrev pub differs : (b : ℕ) → Option ℕ → Bool
differs b (Some known) = not (b == known)
differs b None = false

-- byte k of the payload does
abbrev pub differs_at : Table → Fields → (k : ℕ) → Bool
differs_at t f k = differs (byte f.payload k) (t.at (first_cell t.rows f + k))

-- the first byte of the payload that does
abbrev pub first_difference : Table → Fields → Option ℕ
first_difference t f = find (differs_at t f) (range_with_len 0 (length f.payload))

-- 13, first: a byte of the payload is not what is known of its cell; seen at the least such address of the section's table
abbrev pub difference_rule : Table → Fields → Verdict
difference_rule t f = option_map (λ k. Contradiction (f.timing.address + k)) (first_difference t f)

-- a number is told that was told otherwise before
abbrev pub retold : (before now : Option ℕ) → Bool
retold (Some x) (Some y) = not (x == y)
retold (Some x) None = false
retold None now = false

-- an E that was told and a p that is told now do not fit, or the other way round
abbrev pub misfit : (R : ℕ) → (end padding : Option ℕ) → Bool
misfit R (Some end) (Some p) = not (ends_in R p end)
misfit R (Some end) None = false
misfit R None padding = false

-- an application cell at this end or above it was received
abbrev pub received_from : Table → (end : ℕ) → Bool
received_from t end = list_any t.received (range_with_len end (table_size t.rows - end))

-- the section tells another E or p than was told
abbrev pub retells : Table → Fields → Bool
retells t f = retold t.end (told_end f) || retold t.padding (told_padding f)

-- it tells an E or p that does not fit what was told of the other
abbrev pub tells_apart : Table → Fields → Bool
tells_apart t f = misfit t.rows t.end (told_padding f) || misfit t.rows (told_end f) t.padding

-- what it tells of the end goes against what was told, or against what was received
abbrev pub goes_against : Table → Fields → (end : ℕ) → Bool
goes_against t f end = (retells t f || tells_apart t f) || received_from t end

-- 13, second: that; seen at the end that the section tells
abbrev pub end_rule_at : Table → Fields → Option ℕ → Verdict
end_rule_at t f (Some end) = when (goes_against t f end) (Contradiction end)
end_rule_at t f None = None

abbrev pub end_rule : Table → Fields → Verdict
end_rule t f = end_rule_at t f (padded_from t.rows f)

-- 13: the section contradicts what is known; the first cause counts
abbrev pub contradiction_rule : Table → Fields → Verdict
contradiction_rule t f = or_else (difference_rule t f) (end_rule t f)

-- 12 and 13 in their order
abbrev pub table_rules : Table → Fields → List Verdict
table_rules t f = limit_rule (limit t) f ∷ contradiction_rule t f ∷ []

-- 4 to 13 in their order, of a section that comes to a table, by a code with m check columns
abbrev pub section_rules : (m : ℕ) → Table → List ℕ → List Verdict
section_rules m t s = read_rules t.rows m s ++ table_rules t (fields_of s)

-- take, with so many cells and marks: 2, then 4 to 13
abbrev pub take_rules : (m : ℕ) → Table → List ℕ → (cells marks : ℕ) → List Verdict
take_rules m t s cells marks = buffers_rule m t.rows cells marks ∷ section_rules m t s

-- the rows, 0 where there are none
abbrev pub rows_or_none : Option ℕ → ℕ
rows_or_none (Some R) = R
rows_or_none None = 0

-- start: 1, then 2. Where the size code is not in use there are no rows to ask 2 about, and 1 comes first.
abbrev pub start_rules : (sizes : ℕ → Option ℕ) → (m code cells marks : ℕ) → List Verdict
start_rules sizes m code cells marks =
    size_rule sizes code ∷ buffers_rule m (rows_or_none (sizes code)) cells marks ∷ []
