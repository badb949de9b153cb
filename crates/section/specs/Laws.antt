-- What reading and writing a section promise of each other.
use Rattle.std.specs.Prelude.{◌≡◌, ℕ, ◌+◌, ◌<◌, true, false, List, length}
use Rattle.octets.specs.Octets.{byte, bit}
use Rattle.refusal.specs.Rules.{Passes}
use Rattle.section.specs.declared.reading.Section.{Section}
use Rattle.section.specs.Rules.{read_rules}
use Rattle.section.specs.Writing.{write_rules}
use Rattle.section.specs.Sections.{SectionOf}
use Rattle.section.specs.Layout.{written_of, unread}

-- two sections have the same fields and the same payload
pub record SameSection (x y : Section) : Type 0 where
  pub header : x.header ≡ y.header
  pub timing : x.timing ≡ y.timing
  pub payload : x.payload.now ≡ y.payload.now

-- reading these bytes, for R rows and m check columns, gives these fields: no rule turns them away, and these fields stand
-- in them, and no others
unfoldable pub ReadsAs : (R m : ℕ) → List ℕ → Section → Type 0
ReadsAs R m s x = Passes (read_rules R m s) × SectionOf s x × ((y : Section) → SectionOf s y → SameSection y x)

-- writing the fields that were read from these bytes gives the bytes again
pub record WrittenAgain (R m : ℕ) (s : List ℕ) (x : Section) : Type 0 where
  -- the fields can be written, and as many bytes come out
  pub writable : Passes (write_rules R m x.header x.timing x.payload.now 4096)
  pub size : length (written_of x) ≡ length s
  -- they are the same in every bit that is read, CRC_32 aside
  pub bits : (k b : ℕ) → k + 4 < length s → b < 8 → unread (byte s 0) k b ≡ false → bit (byte (written_of x) k) b ≡ bit (byte s k) b
  -- and where the bits that are not read are as written, it is the same section, CRC_32 included
  pub same : ((k b : ℕ) → b < 8 → unread (byte s 0) k b ≡ true → bit (byte (written_of x) k) b ≡ bit (byte s k) b) → written_of x ≡ s
