-- Which datagrams of a frame can be found by what the ledger has, and which of them are there whole.
use Rattle.std.specs.Prelude.{◌≡◌, ℕ, ◌+◌, ◌/◌, ◌<◌, true, List, length, Some}
use Rattle.octets.specs.Octets.{byte}
use Rattle.section.specs.declared.datagrams.IpVersion.{IpVersion}
use Rattle.section.specs.Datagrams.{version_number}
use Rattle.frame.specs.Heads.{length_end}
use Rattle.frame.specs.Frames.{Frame, HasDatagram}
use Rattle.table.specs.Tables.{Table}
use Rattle.reading.specs.Decisions.{length_begin}

-- the ledger has a byte for this cell
abbrev pub Has : Table → ℕ → Type 0
Has t i = (b : ℕ) × (t.at i ≡ Some b)

-- it has byte 0 and the length bytes of a datagram at this address: bytes 2 and 3 in IPv4, 4 and 5 in IPv6
pub record HasHead (t : Table) (address : ℕ) (datagram : List ℕ) : Type 0 where
  pub first : Has t address
  pub version : IpVersion
  pub is_version : byte datagram 0 / 16 ≡ version_number version
  pub high : Has t (address + length_begin version)
  pub low : Has t (address + length_end version)

-- A start is found if it is 0, if it is one of the ledger's starts, or if it follows a found datagram whose byte 0 and length bytes
-- the ledger has.
pub data Found (frame : Frame) (t : Table) : ℕ → Type 0 where
  at_0 : Found frame t 0
  at_start : (address : ℕ) → t.starts address ≡ true → Found frame t address
  behind : (address : ℕ) (datagram : List ℕ) → Found frame t address → HasDatagram frame address datagram → HasHead t address datagram
      → Found frame t (address + length datagram)

-- a datagram of the frame whose start is found and whose bytes are all in the ledger
pub record Due (frame : Frame) (t : Table) (address : ℕ) (datagram : List ℕ) : Type 0 where
  pub sent : HasDatagram frame address datagram
  pub found : Found frame t address
  pub complete : (k : ℕ) → k < length datagram → Has t (address + k)
