-- What stands where in a section, and that the fields read from it are those.
use Rattle.std.specs.Prelude.{◌≡◌, ℕ, ◌-◌, true, List, length, take, drop}
use Rattle.octets.specs.Octets.{byte, word32}
use Rattle.section.specs.declared.kinds.Kind.TheVariants.{Datagram as datagram_kind, Check as check_kind}
use Rattle.section.specs.declared.reading.Header.{Header}
use Rattle.section.specs.declared.reading.Header.TheVariants.{Datagram, Check}
use Rattle.section.specs.declared.reading.Section.{Section}
use Rattle.section.specs.declared.timing.RealTime.{RealTime}
use Rattle.section.specs.Kinds.{table_id_of}
use Rattle.section.specs.Datagrams.{whole_as}
use Rattle.section.specs.RealTimes.{real_time_of}

-- the bytes between the twelve of the header and the four of CRC_32
abbrev pub payload_of : List ℕ → List ℕ
payload_of s = take (length s - 16) (drop 12 s)

-- the real-time parameters in bytes 8 to 11
abbrev pub timing_of : List ℕ → RealTime
timing_of s = real_time_of (word32 s 8)

-- these are the fields of a header whose table_id and bytes 3, 4, 6 and 7 are given
abbrev pub HeaderOf : (id byte_3 byte_4 byte_6 byte_7 : ℕ) → List ℕ → Header → Type 0
HeaderOf id byte_3 byte_4 byte_6 byte_7 payload (Datagram h) =
    (id ≡ table_id_of datagram_kind) × (h.mac_address_6 ≡ byte_3) × (h.mac_address_5 ≡ byte_4)
    × (whole_as h.version payload ≡ true)
HeaderOf id byte_3 byte_4 byte_6 byte_7 payload (Check h) =
    (id ≡ table_id_of check_kind) × (h.padding_columns ≡ byte_3) × (h.number ≡ byte_6) × (h.last ≡ byte_7)

-- h has the fields of the header that stands in the section
abbrev pub HeaderIn : List ℕ → Header → Type 0
HeaderIn s h = HeaderOf (byte s 0) (byte s 3) (byte s 4) (byte s 6) (byte s 7) (payload_of s) h

-- these are the fields of the section that the bytes are
pub record SectionOf (s : List ℕ) (section : Section) : Type 0 where
  pub header : HeaderIn s section.header
  pub timing : section.timing ≡ timing_of s
  pub payload : section.payload.now ≡ payload_of s
