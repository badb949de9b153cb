-- The first byte of a payload that is not what is known of its cell, looked for in the parts of the buffers under the payload.
use Rattle.std.proofs.Common.{◌≡◌, ℕ, ◌+◌, ◌-◌, ◌<◌, List, length, take, drop, ap, ◌∙◌, arith}
use Rattle.std.proofs.lemmas.List.{get_or-take, get_or-drop}
use Rattle.octets.specs.Octets.{byte}
use Rattle.frame.specs.Fields.{Fields}
use Rattle.table.specs.Telling.{first_cell}
use Rattle.table.specs.Bursts.{Numbers, table_of, known_at}
use Rattle.table.specs.Rules.{differs, first_difference}
use Rattle.table.proofs.Finding.{find_same}
use Rattle.receiver.specs.Parts.{first_unlike}

-- a byte of a part is that of the whole
in_part : (xs : List ℕ) (first n k : ℕ) → k < n → byte (take n (drop first xs)) k ≡ byte xs (first + k)
in_part xs first n k h = get_or-take n (drop first xs) k 0 h ∙ get_or-drop first xs k 0

known_in_part : (cells marks : List ℕ) (first n k : ℕ) → k < n
    → known_at (take n (drop first cells)) (take n (drop first marks)) k ≡ known_at cells marks (first + k)
known_in_part cells marks first n k h = rw (in_part cells first n k h, in_part marks first n k h)

-- where the payload begins at this cell and ends before that one
pub first_in_parts : (b : Numbers) (f : Fields) (cells marks : List ℕ) (first end : ℕ) → first ≡ first_cell b.rows f → end ≡ first + length f.payload
    → first_unlike f.payload (take (end - first) (drop first cells)) (take (end - first) (drop first marks))
    ≡ first_difference (table_of b cells marks) f
first_in_parts b f cells marks first end begins ends =
    find_same _ _ 0 (length f.payload) (λ k above below.
    ap (differs (byte f.payload k)) (known_in_part cells marks first (end - first) k (omega arith) ∙ ap (λ i. known_at cells marks (i + k)) begins))
