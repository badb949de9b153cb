-- The table of worked cases: each line is a test of the definitions that must come out true.
use Rattle.std.specs.Prelude.{ℕ, Bool, true, false, not, ◌&&◌, List, [], ◌∷◌, length, take, replicate, is_some, ◌==◌, slice_set}
use Rattle.octets.specs.Octets.{byte}
use Rattle.gf256.specs.Products.{times}
use Rattle.geometry.specs.Cells.{row_at, column_at}
use Rattle.geometry.specs.Ends.{padding_of, ends_in}
use Rattle.refusal.specs.Rules.{first}
use Rattle.rs_code.specs.Counts.{known_count}
use Rattle.section.specs.declared.reading.Header.{Header}
use Rattle.section.specs.declared.timing.RealTime.{RealTime}
use Rattle.section.specs.RealTimes.{real_time_word, real_time_of}
use Rattle.section.specs.Rules.{read_rules}
use Rattle.section.specs.Sections.{payload_of, timing_of}
use Rattle.section.specs.Layout.{header_bytes, written}
use Rattle.section.specs.Writing.{write_rules}
use Rattle.worked_cases.specs.RowCases.{zeros, first_known}
use Rattle.worked_cases.specs.Examples.{five_seconds, example, example_header, example_datagram, example_bit_6, column_5, column_5_timing, column_2, column_2_timing, column_2_bytes, column_2_section, column_2_otherwise}

abbrev pub all_hold : List Bool → Bool
all_hold [] = true
all_hold (case ∷ cases) = case && all_hold cases

-- the same bytes
abbrev pub same : List ℕ → List ℕ → Bool
same [] [] = true
same [] (y ∷ ys) = false
same (x ∷ xs) [] = false
same (x ∷ xs) (y ∷ ys) = x == y && same xs ys

-- a section passes all rules of reading for R rows and m check columns
abbrev pub readable : (R m : ℕ) → List ℕ → Bool
readable R m s = not (is_some (first (read_rules R m s)))

-- fields pass all rules of writing for R rows and m check columns, into a buffer of so many bytes
abbrev pub writable : (R m : ℕ) → Header → RealTime → List ℕ → (room : ℕ) → Bool
writable R m h t payload room = not (is_some (first (write_rules R m h t payload room)))

-- the example, written from its fields
abbrev pub example_written : List ℕ
example_written = written example_header five_seconds example_datagram

abbrev pub cases : List Bool
cases =
    -- the real-time parameters are 0x1F480410, and each field is read back from that number
    (real_time_word five_seconds == 0x1F48_0410)
    ∷ ((real_time_of 0x1F48_0410).delta_t == 500)
    ∷ (real_time_of 0x1F48_0410).table_boundary
    ∷ not (real_time_of 0x1F48_0410).frame_boundary
    ∷ ((real_time_of 0x1F48_0410).address == 1040)
    -- the section of the example passes, with these real-time parameters and a payload of 20 bytes
    ∷ readable 256 64 example
    ∷ (real_time_word (timing_of example) == 0x1F48_0410)
    ∷ (length (payload_of example) == 20)
    -- with another byte in it, or in its CRC_32, it does not
    ∷ not (readable 256 64 (slice_set example 3 0x0F))
    ∷ not (readable 256 64 (slice_set example 35 0x69))
    -- its fields can be written: 36 bytes come out, bytes 1 and 2 are 0xB0 0x21, and it is that section
    ∷ writable 256 64 example_header five_seconds example_datagram 4096
    ∷ (length example_written == 36)
    ∷ (byte example_written 1 == 0xB0)
    ∷ (byte example_written 2 == 0x21)
    ∷ same example_written example
    -- not into another buffer, and not a byte short
    ∷ not (writable 256 64 example_header five_seconds example_datagram 4095)
    ∷ not (writable 256 64 example_header five_seconds (take 19 example_datagram) 4096)
    -- with the bit that is not read as 1 it passes too, with the same real-time parameters and datagram
    ∷ readable 256 64 example_bit_6
    ∷ (real_time_word (timing_of example_bit_6) == 0x1F48_0410)
    ∷ same (payload_of example_bit_6) example_datagram
    -- a check column of 256 bytes can be written, behind these twelve bytes
    ∷ writable 256 64 column_5 column_5_timing (replicate 256 0) 4096
    ∷ same (header_bytes column_5 column_5_timing 256) (0x78 ∷ 0xB1 ∷ 0x0D ∷ 0xBA ∷ 0xFF ∷ 0xFF ∷ 0x05 ∷ 0x3F ∷ 0x1F ∷ 0x40 ∷ 0x05 ∷ 0x00 ∷ [])
    -- a check column of 20 bytes can be written, is just this section, and passes; not for 7 check columns, and not for 19 rows
    ∷ writable 20 8 column_2 column_2_timing column_2_bytes 4096
    ∷ same (written column_2 column_2_timing column_2_bytes) column_2_section
    ∷ readable 20 8 column_2_section
    ∷ not (readable 20 7 column_2_section)
    ∷ not (readable 19 8 column_2_section)
    -- with all that is not read otherwise it passes too, with the same column
    ∷ readable 20 8 column_2_otherwise
    ∷ same (payload_of column_2_otherwise) column_2_bytes
    -- in the field, 0x02 times 0x8E is 0x01
    ∷ (times 0x02 0x8E == 0x01)
    -- 190, 191 and 192 bytes of a row can be known, and one of them can be the only one that is not 0
    ∷ (known_count (first_known 190) == 190)
    ∷ (known_count (first_known 191) == 191)
    ∷ (known_count (first_known 192) == 192)
    ∷ (length (first_known 191) == 255)
    ∷ (byte (slice_set zeros 7 0x01) 7 == 0x01)
    -- with 256 rows, address 1,040 is row 16 of column 4
    ∷ (row_at 256 1040 == 16)
    ∷ (column_at 256 1040 == 4)
    -- datagrams that end at 256 leave 190 columns of padding only, and with a byte more 189
    ∷ (padding_of 256 256 == 190)
    ∷ ends_in 256 190 256
    ∷ (padding_of 256 257 == 189)
    ∷ ends_in 256 189 257
    ∷ not (ends_in 256 190 257)
    ∷ []
