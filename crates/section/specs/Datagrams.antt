-- One whole datagram, for all layers: what an IP datagram tells of itself, and that the bytes are just that.
use Rattle.std.specs.Prelude.{ℕ, ◌+◌, ◌/◌, Bool, not, ◌&&◌, ◌||◌, List, length, ◌==◌, nat_le}
use Rattle.octets.specs.Octets.{byte, word16}
use Rattle.refusal.specs.declared.Refusal.TheVariants.{NotOneDatagram}
use Rattle.refusal.specs.Rules.{Verdict, when}
use Rattle.section.specs.declared.datagrams.IpVersion.{IpVersion}
use Rattle.section.specs.declared.datagrams.IpVersion.TheVariants.{V4, V6}

-- the upper half of byte 0
abbrev pub version_number : IpVersion → ℕ
version_number V4 = 4
version_number V6 = 6

-- the length that a datagram's own bytes tell
abbrev pub told_length : IpVersion → List ℕ → ℕ
told_length V4 d = word16 d 2
told_length V6 d = 40 + word16 d 4

-- the bytes are one whole datagram of a version: as many as it tells, 20 to 4,080
abbrev pub whole_as : IpVersion → List ℕ → Bool
whole_as v d = byte d 0 / 16 == version_number v && told_length v d == length d && nat_le 20 (length d) && nat_le (length d) 4080

-- the bytes are one whole datagram
abbrev pub whole : List ℕ → Bool
whole d = whole_as V4 d || whole_as V6 d

-- 11: what should be one whole datagram, at a place, is not
abbrev pub whole_rule : List ℕ → (place : ℕ) → Verdict
whole_rule d place = when (not (whole d)) (NotOneDatagram place)
