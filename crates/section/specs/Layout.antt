-- How a section is written: every byte from the fields, and the bits that are written and not read.
use Rattle.std.specs.Prelude.{ℕ, ◌+◌, ◌-◌, ◌/◌, ◌%◌, Bool, ◌&&◌, ◌||◌, List, [], ◌∷◌, ◌++◌, length, ◌==◌, nat_le}
use Rattle.crc32.specs.Crc.{crc, big_endian}
use Rattle.section.specs.declared.kinds.Kind.{Kind}
use Rattle.section.specs.declared.kinds.Kind.TheVariants.{Datagram as datagram_kind, Check as check_kind}
use Rattle.section.specs.declared.reading.Header.{Header}
use Rattle.section.specs.declared.reading.Header.TheVariants.{Datagram, Check}
use Rattle.section.specs.declared.reading.Section.{Section}
use Rattle.section.specs.declared.timing.RealTime.{RealTime}
use Rattle.section.specs.Kinds.{table_id_of}
use Rattle.section.specs.RealTimes.{real_time_word}

abbrev pub kind_of : Header → Kind
kind_of (Datagram h) = datagram_kind
kind_of (Check h) = check_kind

-- bytes 1 and 2 of a section of n bytes: bits 7, 5 and 4 of byte 1 are 1, its bit 6 is 0, and section_length is n - 3
abbrev pub bytes_of_length : (n : ℕ) → List ℕ
bytes_of_length n = (0xB0 + (n - 3) / 256) ∷ (n - 3) % 256 ∷ []

-- bytes 3 to 7: a datagram section is neither scrambled nor wrapped and has two zeros; in an MPE-FEC section what is
-- reserved is written as ones
abbrev pub bytes_of_kind : Header → List ℕ
bytes_of_kind (Datagram h) = h.mac_address_6 ∷ h.mac_address_5 ∷ 0xC1 ∷ 0 ∷ 0 ∷ []
bytes_of_kind (Check h) = h.padding_columns ∷ 0xFF ∷ 0xFF ∷ h.number ∷ h.last ∷ []

-- the twelve bytes in front of a payload of so many bytes
abbrev pub header_bytes : Header → RealTime → (size : ℕ) → List ℕ
header_bytes h t size =
    (table_id_of (kind_of h) ∷ []) ++ bytes_of_length (16 + size) ++ bytes_of_kind h ++ big_endian (real_time_word t)

-- a message with its CRC_32 behind it
abbrev pub with_crc : List ℕ → List ℕ
with_crc message = message ++ big_endian (crc message)

-- the section that has these fields and this payload
unfoldable pub written : Header → RealTime → (payload : List ℕ) → List ℕ
written h t payload = with_crc (header_bytes h t (length payload) ++ payload)

abbrev pub written_of : Section → List ℕ
written_of x = written x.header x.timing x.payload.now

-- the bits that are not read, by table_id, byte and bit: bit 6 of byte 1, and in an MPE-FEC section byte 4 and bits 5 to 1
-- of byte 5
abbrev pub unread : (id place bit_number : ℕ) → Bool
unread id place bit_number =
    (place == 1 && bit_number == 6)
    || (id == table_id_of check_kind && (place == 4 || (place == 5 && nat_le 1 bit_number && nat_le bit_number 5)))
