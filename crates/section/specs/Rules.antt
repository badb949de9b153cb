-- When a section is turned away: a rule for each of the numbers 4 to 11, and their order.
-- The rule for 5 stands with the kinds of section, and what 11 asks of a payload with the datagram.
use Rattle.std.specs.Prelude.{ℕ, ◌-◌, ◌*◌, Bool, cond, not, ◌&&◌, ◌||◌, List, [], ◌∷◌, length, None, ◌==◌, nat_le, nat_lt}
use Rattle.octets.specs.Octets.{byte, bit, section_length}
use Rattle.crc32.specs.Crc.{crc}
use Rattle.refusal.specs.declared.Refusal.TheVariants.{SectionSize, SectionLength, MarkerBit, NotPlain, Checksum, Field}
use Rattle.refusal.specs.Rules.{Verdict, when, or_else}
use Rattle.section.specs.declared.kinds.Kind.TheVariants.{Datagram, Check}
use Rattle.section.specs.Kinds.{table_id_of, table_rule}
use Rattle.section.specs.Datagrams.{whole_rule}
use Rattle.section.specs.Sections.{payload_of, timing_of}

-- a rule that differs by the kind of section, which the table_id tells; any other has been turned away before, under 5
abbrev pub by_kind : (id : ℕ) → (of_datagram of_check : Verdict) → Verdict
by_kind id of_datagram of_check =
    cond (id == table_id_of Datagram) of_datagram (cond (id == table_id_of Check) of_check None)

-- 4: fewer than 16 or more than 4,096 bytes
abbrev pub size_rule : (n : ℕ) → Verdict
size_rule n = when (nat_lt n 16 || nat_lt 4096 n) SectionSize

-- 6: section_length is not n - 3
abbrev pub length_rule : (byte_1 byte_2 n : ℕ) → Verdict
length_rule byte_1 byte_2 n = when (not (section_length byte_1 byte_2 == n - 3)) SectionLength

-- the bits that must be 1, of byte 1 and of byte 5
abbrev pub markers_1 : (byte_1 : ℕ) → Bool
markers_1 byte_1 = bit byte_1 7 && bit byte_1 5 && bit byte_1 4

abbrev pub markers_5 : (byte_5 : ℕ) → Bool
markers_5 byte_5 = bit byte_5 7 && bit byte_5 6 && bit byte_5 0

-- 7: a bit that must be 1 is not; the first such byte counts
abbrev pub marker_rule : (byte_1 byte_5 : ℕ) → Verdict
marker_rule byte_1 byte_5 =
    or_else (when (not (markers_1 byte_1)) (MarkerBit 1)) (when (not (markers_5 byte_5)) (MarkerBit 5))

-- scrambled in payload (bits 5 and 4) or address (3 and 2), or wrapped by LLC/SNAP (1)
abbrev pub scrambled_or_wrapped : (byte_5 : ℕ) → Bool
scrambled_or_wrapped byte_5 = bit byte_5 5 || bit byte_5 4 || bit byte_5 3 || bit byte_5 2 || bit byte_5 1

-- 8: a datagram section is scrambled or wrapped
abbrev pub plain_rule : (id byte_5 : ℕ) → Verdict
plain_rule id byte_5 = by_kind id (when (scrambled_or_wrapped byte_5) NotPlain) None

-- 9: CRC_32 over the whole section is not 0
abbrev pub crc_rule : List ℕ → Verdict
crc_rule s = when (not (crc s == 0)) (Checksum (length s - 4))

-- in a datagram section: byte 6 or 7 is not 0
abbrev pub zeros_rule : (byte_6 byte_7 : ℕ) → Verdict
zeros_rule byte_6 byte_7 = or_else (when (not (byte_6 == 0)) (Field 6)) (when (not (byte_7 == 0)) (Field 7))

-- in the header of an MPE-FEC section for m check columns: p, s, the last number or the address does not fit
abbrev pub column_fields : (m : ℕ) (p s last : ℕ) → (address_fits : Bool) → Verdict
column_fields m p s last address_fits =
    or_else (when (nat_lt 190 p) (Field 3))
    (or_else (when (nat_lt last s) (Field 6))
    (or_else (when (nat_le m last) (Field 7)) (when (not address_fits) (Field 8))))

-- in an MPE-FEC section for R rows and m check columns: one of these, where the address fits if it is s * R, or the
-- payload's size
abbrev pub column_rule : (R m : ℕ) (p s last address size : ℕ) → Verdict
column_rule R m p s last address size =
    or_else (column_fields m p s last (address == s * R)) (when (not (size == R)) (Field 12))

-- 10: a field has a value that it cannot have, or the payload of an MPE-FEC section has another size; the first such byte counts
abbrev pub field_rule : (R m : ℕ) (id byte_3 byte_6 byte_7 address size : ℕ) → Verdict
field_rule R m id byte_3 byte_6 byte_7 address size =
    by_kind id (zeros_rule byte_6 byte_7) (column_rule R m byte_3 byte_6 byte_7 address size)

-- 11: the payload of a datagram section is not one whole datagram
abbrev pub payload_rule : (id : ℕ) → List ℕ → Verdict
payload_rule id payload = by_kind id (whole_rule payload 12) None

-- reading a section: 4 to 11 in their order
abbrev pub read_rules : (R m : ℕ) → List ℕ → List Verdict
read_rules R m s =
    size_rule (length s)
    ∷ table_rule (byte s 0)
    ∷ length_rule (byte s 1) (byte s 2) (length s)
    ∷ marker_rule (byte s 1) (byte s 5)
    ∷ plain_rule (byte s 0) (byte s 5)
    ∷ crc_rule s
    ∷ field_rule R m (byte s 0) (byte s 3) (byte s 6) (byte s 7) (timing_of s).address (length (payload_of s))
    ∷ payload_rule (byte s 0) (payload_of s)
    ∷ []
