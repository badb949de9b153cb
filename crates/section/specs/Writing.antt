-- When fields are not written as a section: the rules of 10, 11 and 15 in writing, and their order.
use Rattle.std.specs.Prelude.{ℕ, ◌*◌, ◌^◌, not, ◌&&◌, List, [], ◌∷◌, length, None, ◌==◌, nat_le, nat_lt}
use Rattle.refusal.specs.declared.Refusal.TheVariants.{Field, NotOneDatagram, Unwritable}
use Rattle.refusal.specs.Rules.{Verdict, when, or_else}
use Rattle.section.specs.declared.reading.Header.{Header}
use Rattle.section.specs.declared.reading.Header.TheVariants.{Datagram, Check}
use Rattle.section.specs.declared.timing.RealTime.{RealTime}
use Rattle.section.specs.Datagrams.{whole_as}
use Rattle.section.specs.Rules.{column_fields}

-- 10: an address of more than 18 bits
abbrev pub address_rule : (address : ℕ) → Verdict
address_rule address = when (nat_le (2 ^ 18) address) (Field 8)

-- 15: a delta_t of more than 12 bits
abbrev pub delta_rule : (delta_t : ℕ) → Verdict
delta_rule delta_t = when (nat_lt 4095 delta_t) Unwritable

-- writing real-time parameters: 10, then 15
abbrev pub timing_rules : RealTime → List Verdict
timing_rules t = address_rule t.address ∷ delta_rule t.delta_t ∷ []

-- 10, of a section that is to be written: the address has more than 18 bits; in an MPE-FEC section as in reading, too, or
-- the payload has more bytes than a section can carry
abbrev pub write_field_rule : (R m : ℕ) → Header → (address size : ℕ) → Verdict
write_field_rule R m (Datagram h) address size = address_rule address
write_field_rule R m (Check h) address size =
    or_else (column_fields m h.padding_columns h.number h.last (address == h.number * R && nat_lt address (2 ^ 18)))
    (when (not (size == R && nat_le size 4080)) (Field 12))

-- 11, of a section that is to be written: the payload is not one whole datagram of the version in the header
abbrev pub write_payload_rule : Header → List ℕ → Verdict
write_payload_rule (Datagram h) payload = when (not (whole_as h.version payload)) (NotOneDatagram 12)
write_payload_rule (Check h) payload = None

-- 15: the buffer for the section is not 4,096 bytes, or delta_t has more than 12 bits
abbrev pub unwritable_rule : (room delta_t : ℕ) → Verdict
unwritable_rule room delta_t = or_else (when (not (room == 4096)) Unwritable) (delta_rule delta_t)

-- writing a section for R rows and m check columns into a buffer of so many bytes: 10, 11 and 15 in their order
abbrev pub write_rules : (R m : ℕ) → Header → RealTime → (payload : List ℕ) → (room : ℕ) → List Verdict
write_rules R m h t payload room =
    write_field_rule R m h t.address (length payload) ∷ write_payload_rule h payload ∷ unwritable_rule room t.delta_t ∷ []
