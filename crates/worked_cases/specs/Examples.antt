-- The sections and fields that the worked cases are about. Each CRC_32 here was worked out by another program.
use Rattle.std.specs.Prelude.{ℕ, ◌*◌, false, true, List, [], ◌∷◌, ◌++◌, take, drop}
use Rattle.section.specs.declared.datagrams.IpVersion.TheVariants.{V4}
use Rattle.section.specs.declared.reading.Header.{Header}
use Rattle.section.specs.declared.reading.Header.TheVariants.{Datagram, Check}
use Rattle.section.specs.declared.timing.RealTime.{RealTime}

-- delta_t 500 (5 s), the last section of its table and not of its frame, at address 1,040
abbrev pub five_seconds : RealTime
five_seconds = record { delta_t = 500; table_boundary = true; frame_boundary = false; address = 1040 }

-- a datagram section with these real-time parameters, an IPv4 datagram of 20 bytes, and its CRC_32
abbrev pub example : List ℕ
example =
    0x3E ∷ 0xB0 ∷ 0x21 ∷ 0x0E ∷ 0x17 ∷ 0xC1 ∷ 0x00 ∷ 0x00 ∷ 0x1F ∷ 0x48 ∷ 0x04 ∷ 0x10
    ∷ 0x45 ∷ 0x00 ∷ 0x00 ∷ 0x14 ∷ 0x00 ∷ 0x00 ∷ 0x40 ∷ 0x00 ∷ 0x01 ∷ 0x11 ∷ 0xC0 ∷ 0xC9
    ∷ 0xC0 ∷ 0x00 ∷ 0x02 ∷ 0x01 ∷ 0xE0 ∷ 0x00 ∷ 0x17 ∷ 0x0E ∷ 0xF2 ∷ 0x87 ∷ 0x23 ∷ 0x68 ∷ []

-- its header and its datagram
abbrev pub example_header : Header
example_header = Datagram (record { mac_address_6 = 0x0E; mac_address_5 = 0x17; version = V4 })

abbrev pub example_datagram : List ℕ
example_datagram = take 20 (drop 12 example)

-- the same section with bit 6 of byte 1 as 1, and the CRC_32 of that
abbrev pub example_bit_6 : List ℕ
example_bit_6 = (0x3E ∷ 0xF0 ∷ []) ++ take 30 (drop 2 example) ++ (0xB7 ∷ 0x0C ∷ 0xD0 ∷ 0xD0 ∷ [])

-- check column 5 of a frame of 256 rows with 186 columns of padding only, and its real-time parameters
abbrev pub column_5 : Header
column_5 = Check (record { padding_columns = 186; number = 5; last = 63 })

abbrev pub column_5_timing : RealTime
column_5_timing = record { delta_t = 500; table_boundary = false; frame_boundary = false; address = 5 * 256 }

-- check column 2 of 8, of 20 rows, with 190 columns of padding only: header, real-time parameters, and the column
abbrev pub column_2 : Header
column_2 = Check (record { padding_columns = 190; number = 2; last = 7 })

abbrev pub column_2_timing : RealTime
column_2_timing = record { delta_t = 500; table_boundary = false; frame_boundary = false; address = 2 * 20 }

abbrev pub column_2_bytes : List ℕ
column_2_bytes = 1 ∷ 2 ∷ 3 ∷ 4 ∷ 5 ∷ 6 ∷ 7 ∷ 8 ∷ 9 ∷ 10 ∷ 11 ∷ 12 ∷ 13 ∷ 14 ∷ 15 ∷ 16 ∷ 17 ∷ 18 ∷ 19 ∷ 20 ∷ []

-- the MPE-FEC section with these, and its CRC_32
abbrev pub column_2_section : List ℕ
column_2_section =
    (0x78 ∷ 0xB0 ∷ 0x21 ∷ 0xBE ∷ 0xFF ∷ 0xFF ∷ 0x02 ∷ 0x07 ∷ 0x1F ∷ 0x40 ∷ 0x00 ∷ 0x28 ∷ []) ++ column_2_bytes ++ (0x99 ∷ 0xEE ∷ 0xF1 ∷ 0x16 ∷ [])

-- the same where all that is not read is otherwise: bit 6 of byte 1 as 1, and byte 4 and bits 5 to 1 of byte 5 as zeros
abbrev pub column_2_otherwise : List ℕ
column_2_otherwise =
    (0x78 ∷ 0xF0 ∷ 0x21 ∷ 0xBE ∷ 0x00 ∷ 0xC1 ∷ 0x02 ∷ 0x07 ∷ 0x1F ∷ 0x40 ∷ 0x00 ∷ 0x28 ∷ []) ++ column_2_bytes ++ (0xA8 ∷ 0xB7 ∷ 0x5E ∷ 0xA0 ∷ [])
