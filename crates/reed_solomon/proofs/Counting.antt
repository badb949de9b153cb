-- The missing bytes of a row, counted along it.
use Rattle.std.proofs.Common.{◌≡◌, ℕ, ◌+◌, ◌<◌, ◌≤◌, Bool, true, false, not, List, sym, ap, ◌∙◌, add-one}
use Rattle.rowcode.specs.Rows.{is_known}
use Rattle.rs_code.specs.Counts.{count, missing}
use Rattle.rs_code.proofs.Places as places

pub count_none : (known : List Bool) → count (missing known) 0 ≡ 0
count_none known = places.count_none (missing known)

-- a missing byte is one more
pub count_more : (known : List Bool) (i : ℕ) → is_known known i ≡ false → count (missing known) (i + 1) ≡ count (missing known) i + 1
count_more known i e =
    ap (count (missing known)) (add-one i) ∙ places.count_more (missing known) i (ap not e) ∙ sym (add-one (count (missing known) i))

-- a known one is not
pub count_past : (known : List Bool) (i : ℕ) → is_known known i ≡ true → count (missing known) (i + 1) ≡ count (missing known) i
count_past known i e = ap (count (missing known)) (add-one i) ∙ places.count_past (missing known) i (ap not e)

-- before a missing byte there are fewer than all
pub count_below : (known : List Bool) (k n : ℕ) → missing known k ≡ true → k < n → count (missing known) k < count (missing known) n
count_below known k n e l = places.count_lt (missing known) k n l e

pub count_le : (known : List Bool) (n : ℕ) → count (missing known) n ≤ n
count_le known n = places.count_le (missing known) n

pub ruleset counting = (count_none, count_more, count_past, count_below, count_le)
