-- What a datagram tells of itself, by its first bytes, at a place of a table.
use Rattle.std.specs.Prelude.{◌≡◌, ℕ, ◌+◌, ◌/◌, ◌≤◌, Bool, true, ◌&&◌, cond, List, length, take, drop, Option, Some, None, ◌==◌, nat_lt}
use Rattle.octets.specs.Octets.{byte}
use Rattle.section.specs.declared.datagrams.IpVersion.{IpVersion}
use Rattle.section.specs.declared.datagrams.IpVersion.TheVariants.{V4, V6}
use Rattle.section.specs.Datagrams.{version_number, told_length, whole_as}
use Rattle.frame.specs.declared.heads.Head.{Head}

-- the second of the two bytes that tell a datagram's length
abbrev pub length_end : IpVersion → ℕ
length_end V4 = 3
length_end V6 = 5

-- the bytes begin with a head of this version: byte 0 tells it, and the length bytes are there too
abbrev pub begins_as : IpVersion → List ℕ → Bool
begins_as v xs = byte xs 0 / 16 == version_number v && nat_lt (length_end v) (length xs)

-- the head that bytes begin with, if they begin with one
abbrev pub head_of : List ℕ → Option Head
head_of xs =
    cond (begins_as V4 xs) (Some (record { version = V4; length = told_length V4 xs }))
    (cond (begins_as V6 xs) (Some (record { version = V6; length = told_length V6 xs })) None)

-- where the n bytes from a place on are one whole datagram, this is its head
abbrev pub TellsItself : List ℕ → (place : ℕ) → Option Head → Type 0
TellsItself xs place head =
    (v : IpVersion) (n : ℕ) → place + n ≤ length xs → whole_as v (take n (drop place xs)) ≡ true
    → head ≡ Some (record { version = v; length = n })
