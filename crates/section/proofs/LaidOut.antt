-- The parts of a section as it is written: a header of twelve bytes, the payload, and CRC_32.
use Rattle.std.proofs.Common.{◌≡◌, ℕ, ◌+◌, ◌<◌, List, ◌++◌, length, arith, length-append}
use Rattle.std.proofs.lemmas.List.{get_or_append_left}
use Rattle.octets.specs.Octets.{byte}
use Rattle.crc32.specs.Crc.{crc, big_endian}
use Rattle.section.specs.declared.reading.Header.{Header}
use Rattle.section.specs.declared.reading.Header.TheVariants.{Datagram, Check}
use Rattle.section.specs.declared.timing.RealTime.{RealTime}
use Rattle.section.specs.Layout.{header_bytes, written}

-- all that stands before CRC_32
abbrev pub message : Header → RealTime → (payload : List ℕ) → List ℕ
message h t payload = header_bytes h t (length payload) ++ payload

pub message_length : (h : Header) (t : RealTime) (payload : List ℕ) → length (message h t payload) ≡ 12 + length payload
message_length (Datagram h) t payload = omega arith
message_length (Check h) t payload = omega arith

pub written_length : (h : Header) (t : RealTime) (payload : List ℕ) → length (written h t payload) ≡ 16 + length payload
unfolding written
written_length h t payload = omega (arith, length-append (message h t payload) (big_endian (crc (message h t payload))), message_length h t payload)

pub in_message : (h : Header) (t : RealTime) (payload : List ℕ) (k : ℕ) → k < length (message h t payload) → byte (written h t payload) k ≡ byte (message h t payload) k
unfolding written
in_message h t payload = get_or_append_left (message h t payload) (big_endian (crc (message h t payload))) 0
