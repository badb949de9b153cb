-- What stands at a place of the cells that a read-out reads, whatever they and their marks hold. `cells` are those below the limit:
-- so the limit is as many as there are.
use Rattle.std.specs.Prelude.{ℕ, ◌+◌, ◌/◌, Bool, not, ◌&&◌, ◌||◌, cond, List, length, drop, ◌==◌, nat_le, nat_lt}
use Rattle.std.specs.List.{range_with_len, list_all}
use Rattle.octets.specs.Octets.{byte}
use Rattle.marks.specs.Marks.{mark_of, is_known}
use Rattle.section.specs.declared.datagrams.IpVersion.{IpVersion}
use Rattle.section.specs.declared.datagrams.IpVersion.TheVariants.{V4, V6}
use Rattle.section.specs.Datagrams.{version_number, told_length}
use Rattle.frame.specs.Heads.{length_end}
use Rattle.reading.specs.declared.decisions.Decision.{Decision}
use Rattle.reading.specs.declared.decisions.Decision.TheVariants.{NotTold, Wrong, Incomplete, Whole}

-- the byte at a place can be read: the place is below the limit, and its cell is known
abbrev pub can_read : (cells marks : List ℕ) → ℕ → Bool
can_read cells marks i = nat_lt i (length cells) && is_known (mark_of (byte marks i))

-- so can each of the n bytes from a place on
abbrev pub can_read_all : (cells marks : List ℕ) → (place n : ℕ) → Bool
can_read_all cells marks place n = list_all (can_read cells marks) (range_with_len place n)

-- the first of the two bytes that tell a datagram's length
abbrev pub length_begin : IpVersion → ℕ
length_begin V4 = 2
length_begin V6 = 4

-- a datagram that tells this length is wrong if it has not 20 to 4,080 bytes or passes the limit; it is incomplete if one of its
-- bytes cannot be read, and else it is whole
abbrev pub sized : (cells marks : List ℕ) → (place n : ℕ) → Decision
sized cells marks place n =
    cond (not (nat_le 20 n && nat_le n 4080) || nat_lt (length cells) (place + n)) Wrong
    (cond (can_read_all cells marks place n) (Whole n) (Incomplete n))

-- one of this version tells nothing if a byte of its length cannot be read
abbrev pub told_as : IpVersion → (cells marks : List ℕ) → (place : ℕ) → Decision
told_as v cells marks place =
    cond (can_read cells marks (place + length_begin v) && can_read cells marks (place + length_end v))
    (sized cells marks place (told_length v (drop place cells)))
    NotTold

-- the upper half of byte 0 is the number of this version
abbrev pub has_version : IpVersion → (cells : List ℕ) → (place : ℕ) → Bool
has_version v cells place = byte cells place / 16 == version_number v

-- What stands at a place. Nothing is told where byte 0 or a byte of the length cannot be read; a version other than 4 and 6 is
-- wrong.
unfoldable pub decision_at : (cells marks : List ℕ) → (place : ℕ) → Decision
decision_at cells marks place =
    cond (not (can_read cells marks place)) NotTold
    (cond (has_version V4 cells place) (told_as V4 cells marks place)
    (cond (has_version V6 cells place) (told_as V6 cells marks place)
    Wrong))
