-- The fields of a section as values, and those that stand in its bytes.
use Rattle.std.specs.Prelude.{ℕ, ◌/◌, cond, List, ◌==◌}
use Rattle.octets.specs.Octets.{byte}
use Rattle.section.specs.declared.datagrams.IpVersion.TheVariants.{V4, V6}
use Rattle.section.specs.declared.kinds.Kind.TheVariants.{Datagram as datagram_kind}
use Rattle.section.specs.declared.reading.Header.{Header}
use Rattle.section.specs.declared.reading.Header.TheVariants.{Datagram, Check}
use Rattle.section.specs.declared.reading.Section.{Section}
use Rattle.section.specs.declared.timing.RealTime.{RealTime}
use Rattle.section.specs.Datagrams.{version_number}
use Rattle.section.specs.Kinds.{table_id_of}
use Rattle.section.specs.Sections.{payload_of, timing_of}

pub record Fields : Type 0 where
  pub header : Header
  pub timing : RealTime
  pub payload : List ℕ

-- those of a section that was read
abbrev pub fields : Section → Fields
fields x = record { header = x.header; timing = x.timing; payload = x.payload.now }

-- those that stand in the bytes of a section, of which no rule turns away the bytes
abbrev pub header_of : List ℕ → Header
header_of s =
    cond (byte s 0 == table_id_of datagram_kind)
    (Datagram (record {
      mac_address_6 = byte s 3;
      mac_address_5 = byte s 4;
      version = cond (byte (payload_of s) 0 / 16 == version_number V4) V4 V6;
    }))
    (Check (record { padding_columns = byte s 3; number = byte s 6; last = byte s 7 }))

abbrev pub fields_of : List ℕ → Fields
fields_of s = record { header = header_of s; timing = timing_of s; payload = payload_of s }
