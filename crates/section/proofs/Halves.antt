-- The two halves of reading a section joined: its envelope (4 to 9), then its content (10 and 11).
use Rattle.std.proofs.Common.{ap, ◌≡◌, ℕ, ◌-◌, List, [], ◌∷◌, length, take, drop, None, Result, arith}
use Rattle.octets.specs.Octets.{byte}
use Rattle.refusal.specs.declared.Refusal.{Refusal}
use Rattle.refusal.specs.Rules.{Verdict, first, Answers, Obeys}
use Rattle.refusal.proofs.Order.{answers_first, first_append}
use Rattle.section.specs.declared.reading.Header.{Header}
use Rattle.section.specs.declared.reading.Section.{Section}
use Rattle.section.specs.declared.timing.RealTime.{RealTime}
use Rattle.section.specs.Kinds.{table_rule}
use Rattle.section.specs.Rules.{size_rule, length_rule, marker_rule, plain_rule, crc_rule, field_rule, payload_rule, read_rules}
use Rattle.section.specs.Sections.{payload_of, timing_of, HeaderOf, SectionOf}

abbrev pub envelope : List ℕ → List Verdict
envelope s =
    size_rule (length s) ∷ table_rule (byte s 0) ∷ length_rule (byte s 1) (byte s 2) (length s) ∷ marker_rule (byte s 1) (byte s 5)
    ∷ plain_rule (byte s 0) (byte s 5) ∷ crc_rule s ∷ []

abbrev content : (R m id address : ℕ) → List ℕ → List ℕ → List Verdict
content R m id address s payload =
    field_rule R m id (byte s 3) (byte s 6) (byte s 7) address (length payload) ∷ payload_rule id payload ∷ []

-- the content's rules, worked out from what the code has at hand, are those of the section
pub content_answers : (R m : ℕ) (s : List ℕ) (id : ℕ) (timing : RealTime) (payload : List ℕ) (r : Result Section Refusal) → first (envelope s) ≡ None → id ≡ byte s 0 → timing ≡ timing_of s → payload ≡ payload_of s → Obeys (first (content R m id timing.address s payload)) (SectionOf s) r → Answers (read_rules R m s) (SectionOf s) r
content_answers R m s id timing payload r none is_id is_timing is_payload obeys =
    answers_first _ (SectionOf s) r
    (rw (first_append (envelope s) (content R m (byte s 0) (timing_of s).address s (payload_of s)), none) (rw (is_id, is_timing, is_payload) at obeys))

-- the header's fields, told from what the code has at hand, are those of the section
pub header_same : (s : List ℕ) (id : ℕ) (payload : List ℕ) (h : Header) → id ≡ byte s 0 → payload ≡ payload_of s → HeaderOf id (byte s 3) (byte s 4) (byte s 6) (byte s 7) payload h → HeaderOf (byte s 0) (byte s 3) (byte s 4) (byte s 6) (byte s 7) (payload_of s) h
header_same s id payload h is_id is_payload of = rw (is_id, is_payload) at of

-- the part that the code cuts out is the payload
pub part : (s : List ℕ) → take (length s - 4 - 12) (drop 12 s) ≡ payload_of s
part s = ap (λ n. take n (drop 12 s)) (omega arith)
