-- The line of a listing that tells what a section is, or why it is turned away.
use Rattle.std.specs.Prelude.{◌≡◌, ℕ, Bool, cond, List, ◌++◌, length, Option, Some, None, Ok, Err, codes, Result}
use Rattle.refusal.specs.declared.Refusal.{Refusal}
use Rattle.refusal.specs.Refusals.{number_of, layer_of, place_of, layer_word}
use Rattle.refusal.specs.Rules.{Answers}
use Rattle.section.specs.declared.kinds.Kind.{Kind}
use Rattle.section.specs.declared.kinds.Kind.TheVariants.{Datagram, Check}
use Rattle.section.specs.declared.reading.Header.{Header}
use Rattle.section.specs.declared.reading.Header.TheVariants.{Datagram as datagram_header, Check as check_header}
use Rattle.section.specs.declared.reading.Section.{Section}
use Rattle.section.specs.declared.timing.RealTime.{RealTime}
use Rattle.section.specs.Datagrams.{version_number}
use Rattle.section.specs.Layout.{kind_of as kind_of_header}
use Rattle.section.specs.Rules.{read_rules}
use Rattle.section.specs.Sections.{SectionOf}
use Rattle.stream.specs.Columns.{right_aligned, left_aligned}

-- what a line tells of, as a word
abbrev pub kind_word : Option Kind → List ℕ
kind_word (Some Datagram) = codes "datagram"
kind_word (Some Check) = codes "check"
kind_word None = codes "refused"

-- what every line begins with, for a section of n bytes
abbrev pub beginning : (number offset n : ℕ) → Option Kind → List ℕ
beginning number offset n kind =
    right_aligned 7 number ++ right_aligned 9 offset ++ right_aligned 6 n ++ codes " " ++ left_aligned 8 (kind_word kind)

-- a flag as a number
abbrev pub flag : Bool → ℕ
flag b = cond b 1 0

-- the address, delta_t and the two boundaries
abbrev pub timing_columns : RealTime → List ℕ
timing_columns t =
    right_aligned 8 t.address ++ right_aligned 8 t.delta_t
    ++ right_aligned 3 (flag t.table_boundary) ++ right_aligned 3 (flag t.frame_boundary)

-- a datagram's IP version and its size; a check column's number (s), the last number and the padding columns (p)
abbrev pub header_columns : Header → (size : ℕ) → List ℕ
header_columns (datagram_header h) size = right_aligned 3 (version_number h.version) ++ right_aligned 6 size
header_columns (check_header h) size =
    right_aligned 4 h.number ++ right_aligned 4 h.last ++ right_aligned 4 h.padding_columns

-- a refusal's number, its layer and its place
abbrev pub refusal_columns : Refusal → List ℕ
refusal_columns e =
    right_aligned 3 (number_of e) ++ codes " " ++ left_aligned 7 (layer_word (layer_of e)) ++ right_aligned 9 (place_of e)

-- what the line tells of, where a section was read or refused
abbrev pub kind_of : Result Section Refusal → Option Kind
kind_of (Ok section) = Some (kind_of_header section.header)
kind_of (Err e) = None

-- the columns that differ by the kind of line
abbrev pub columns_of : Result Section Refusal → List ℕ
columns_of (Ok section) =
    timing_columns section.timing ++ header_columns section.header (length section.payload.now)
columns_of (Err e) = refusal_columns e

-- the whole line
abbrev pub line_of : (number offset n : ℕ) → Result Section Refusal → List ℕ
line_of number offset n answer = beginning number offset n (kind_of answer) ++ columns_of answer

-- The line is that of the section s, read for a frame of 256 rows and 64 check columns, and tells of its kind.
pub record Lists (number offset : ℕ) (s : List ℕ) (line : List ℕ) (listed : Option Kind) : Type 0 where
  -- what reading the section answers
  pub answer : Result Section Refusal
  pub answers : Answers (read_rules 256 64 s) (SectionOf s) answer
  -- the line
  pub written : line ≡ line_of number offset (length s) answer
  -- what the line tells of
  pub kind : listed ≡ kind_of answer
