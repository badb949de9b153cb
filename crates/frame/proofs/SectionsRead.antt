-- What is read of a section: the fields that stand in it, and, if it is laid out as a section, those that it was laid out from.
use Rattle.std.proofs.Common.{◌≡◌, ℕ, ◌+◌, ◌-◌, ◌/◌, ◌%◌, ◌^◌, ◌<◌, ◌≤◌, Bool, true, false, ◌&&◌, ◌||◌, cond, eqb, ltb, leb, List, length, drop, subst, sym, refl, ap, ◌∙◌, arith, rules, lit<}
use Rattle.std.proofs.lemmas.Bool.{and_parts, eqb-true, agree_below_at, ltb-false, leb-false}
use Rattle.std.proofs.lemmas.Bool.Decides.{nat_tests}
use Rattle.std.proofs.lemmas.List.{length-take, length-drop, get_or-take, get_or-drop, ext_get_or}
use Rattle.octets.specs.Octets.{Bytes, byte, bit, word32}
use Rattle.octets.proofs.EightBits.{same_byte}
use Rattle.crc32.specs.Crc.{crc}
use Rattle.refusal.specs.declared.Refusal.TheVariants.{Field}
use Rattle.refusal.specs.Rules.{when, Passes}
use Rattle.refusal.proofs.Order.{when_none, or_else_none}
use Rattle.section.specs.declared.datagrams.IpVersion.{IpVersion}
use Rattle.section.specs.declared.datagrams.IpVersion.TheVariants.{V4, V6}
use Rattle.section.specs.declared.reading.Header.{Header}
use Rattle.section.specs.declared.reading.Header.TheVariants.{Datagram, Check}
use Rattle.section.specs.declared.reading.Section.{Section}
use Rattle.section.specs.declared.timing.RealTime.{RealTime}
use Rattle.section.specs.declared.kinds.Kind.TheVariants.{Check as check_kind}
use Rattle.section.specs.Kinds.{table_id_of}
use Rattle.section.specs.Datagrams.{version_number, whole_as}
use Rattle.section.specs.RealTimes.{real_time_word, real_time_of}
use Rattle.section.specs.Rules.{markers_1, markers_5, plain_rule, field_rule, read_rules}
use Rattle.section.specs.Writing.{write_rules}
use Rattle.section.specs.Sections.{payload_of, timing_of, HeaderIn, SectionOf}
use Rattle.section.specs.Layout.{written, unread}
use Rattle.section.specs.Laws.{ReadsAs}
use Rattle.section.proofs.Passed.{Passed, passed}
use Rattle.section_writer.proofs.Allowed.{Bounds, bounds}
use Rattle.section_writer.proofs.Back.{passes_back, reads_back}
use Rattle.frame.specs.Fields.{Fields, fields, fields_of, header_of}
use Rattle.frame.specs.Sent.{written_from, LaidOut}

-- a whole datagram's version is what its byte 0 tells
version_number_told : (v : IpVersion) (d : List ℕ) → whole_as v d ≡ true → byte d 0 / 16 ≡ version_number v
version_number_told v d is = eqb-true _ _ (and_parts _ _ (and_parts _ _ (and_parts _ _ is).0).0).0

version_told : (v : IpVersion) (d : List ℕ) → whole_as v d ≡ true → v ≡ cond (eqb (byte d 0 / 16) (version_number V4)) V4 V6
version_told V4 d is = rw (version_number_told V4 d is)
version_told V6 d is = rw (version_number_told V6 d is)

-- the header that is read is the one that stands in the bytes
header_told : (s : List ℕ) (h : Header) → HeaderIn s h → h ≡ header_of s
header_told s (Datagram h) (is, six, five, whole) =
    let version = version_told h.version (payload_of s) whole in
    rw is (λ i. Datagram (record { mac_address_6 = six i; mac_address_5 = five i; version = version i }))
header_told s (Check h) (is, padding, number, last) =
    rw is (λ i. Check (record { padding_columns = padding i; number = number i; last = last i }))

-- the fields that are read are those that stand in the bytes
pub fields_read : (s : List ℕ) (x : Section) → SectionOf s x → fields x ≡ fields_of s
fields_read s x of =
    let header = header_told s x.header of.header in
    λ i. record { header = header i; timing = of.timing i; payload = of.payload i }

-- headers of one kind, and of a check column the same
abbrev pub SameHeader : Header → Header → Type 0
SameHeader (Datagram h) (Datagram g) = Unit {0}
SameHeader (Check h) (Check g) = h ≡ g
SameHeader (Datagram h) (Check g) = ⊥
SameHeader (Check h) (Datagram g) = ⊥

-- no rule of reading turns the bytes away, and these fields are read; of the header of a datagram section only its kind is told
pub record Reads (R m : ℕ) (s : List ℕ) (f : Fields) : Type 0 where
  pub passes : Passes (read_rules R m s)
  pub timing : timing_of s ≡ f.timing
  pub payload : payload_of s ≡ f.payload
  pub header : SameHeader f.header (header_of s)

-- the lower half of a byte, by its bits
abbrev low_bits : ℕ → ℕ
low_bits b = cond (bit b 3) 8 0 + cond (bit b 2) 4 0 + cond (bit b 1) 2 0 + cond (bit b 0) 1 0

lower_half : (b : ℕ) → b < 256 → b % 16 ≡ low_bits b
lower_half b h = eqb-true _ _ (agree_below_at (λ b. eqb (b % 16) (low_bits b)) (λ b. true) 256 b refl h)

-- the bytes of which some bits are not read
abbrev part_read : ℕ → Bool
part_read k = eqb k 1 || eqb k 4 || eqb k 5

-- in any other, every bit is read
all_read : (id k b : ℕ) → part_read k ≡ false → unread id k b ≡ false
all_read id k b whole = grind (arith, nat_tests)

-- how long the payload is, and where its bytes stand
payload_size : (s : List ℕ) → length (payload_of s) ≡ length s - 16
payload_size s = simp (length-take, length-drop) (omega arith)

payload_at : (s : List ℕ) (k : ℕ) → k < length s - 16 → byte (payload_of s) k ≡ byte s (12 + k)
payload_at s k l = get_or-take (length s - 16) (drop 12 s) k 0 l ∙ get_or-drop 12 s k 0

-- the real-time parameters fit 32 bits
word_small : (t : RealTime) → t.delta_t < 2 ^ 12 → t.address < 2 ^ 18 → real_time_word t < 2 ^ 32
word_small t short low = search rules

-- these numbers of a written header are bytes, whatever stands in the others
record Low (w : List ℕ) : Type 0 where
  at_0 : byte w 0 < 256
  at_1 : byte w 1 < 256
  at_2 : byte w 2 < 256
  at_5 : byte w 5 < 256
  at_8 : byte w 8 < 256
  at_9 : byte w 9 < 256
  at_10 : byte w 10 < 256
  at_11 : byte w 11 < 256

low : (h : Header) (t : RealTime) (payload : List ℕ) → Bounds t payload → Low (written h t payload)
unfolding written
low (Datagram h) t payload b =
    let word = word_small t b.short b.low in
    record { at_0 = lit< tt; at_1 = omega arith; at_2 = omega arith; at_5 = lit< tt; at_8 = omega arith; at_9 = omega arith; at_10 = omega arith; at_11 = omega arith }
low (Check h) t payload b =
    let word = word_small t b.short b.low in
    record { at_0 = lit< tt; at_1 = omega arith; at_2 = omega arith; at_5 = lit< tt; at_8 = omega arith; at_9 = omega arith; at_10 = omega arith; at_11 = omega arith }

-- s, which is read, beside w, which is written from the fields
module _ {R m : ℕ} {s : List ℕ} {f : Fields} (few : m ≤ 64) (l : LaidOut R m s f) where
  abbrev as_section : Section
  as_section = record { header = f.header; timing = f.timing; payload = record { ref_ptr = (0, 0); now = f.payload } }

  abbrev w : List ℕ
  w = written_from f

  -- what is written is read back
  there : Passes (read_rules R m w) × SectionOf w as_section
  unfolding ReadsAs
  there = let back = reads_back R m as_section 4096 l.writable in (back.0, back.1)

  p : Passed R m w
  p = passed R m w there.0

  low_bytes : Low w
  low_bytes = low f.header f.timing f.payload (bounds R m f.header f.timing f.payload 4096 l.writable)

  inside : (k : ℕ) → k < 12 → k + 4 < length s
  inside k h = omega (arith, l.size, p.least)

  -- a byte that is read in all its bits
  same_if_read : (k : ℕ) → k + 4 < length s → ((b : ℕ) → unread (byte w 0) k b ≡ false) → byte w k < 256 → byte s k ≡ byte w k
  same_if_read k in_s read below = same_byte _ _ (l.bytes k (omega arith)) below (λ b h. l.bits k b in_s h (read b))

  -- in the header, and in the payload
  same : (k : ℕ) → k < 12 → part_read k ≡ false → byte w k < 256 → byte s k ≡ byte w k
  same k h whole = same_if_read k (inside k h) (λ b. all_read (byte w 0) k b whole)

  same_0 : byte s 0 ≡ byte w 0
  same_0 = same 0 (lit< tt) refl low_bytes.at_0

  timing_same : timing_of s ≡ timing_of w
  timing_same =
      let b = low_bytes in
      let e_8 = same 8 (lit< tt) refl b.at_8 in
      let e_9 = same 9 (lit< tt) refl b.at_9 in
      let e_10 = same 10 (lit< tt) refl b.at_10 in
      let e_11 = same 11 (lit< tt) refl b.at_11 in
      let word : word32 s 8 ≡ word32 w 8 = cc in
      ap real_time_of word

  payload_byte_same : (k : ℕ) → k < length (payload_of s) → byte (payload_of s) k ≡ byte (payload_of w) k
  payload_byte_same k h =
      let size_s = payload_size s in
      let size_w = payload_size w in
      let n = l.size in
      let is = payload_at w k (omega arith) in
      let below : byte w (12 + k) < 256 = rw (← is, ← there.1.payload) (l.payload_bytes k (omega (arith, ap length there.1.payload))) in
      payload_at s k (omega arith)
      ∙ same_if_read (12 + k) (omega arith) (λ b. all_read (byte w 0) (12 + k) b (grind (arith, nat_tests))) below
      ∙ sym is

  payload_same : payload_of s ≡ payload_of w
  payload_same = ext_get_or 0 (payload_of s) (payload_of w) (omega (arith, payload_size s, payload_size w, l.size)) payload_byte_same

  -- byte 1: the lower half, and the bits that must be 1
  bit_1 : (b : ℕ) → b < 8 → eqb b 6 ≡ false → bit (byte s 1) b ≡ bit (byte w 1) b
  bit_1 b h not_6 = l.bits 1 b (inside 1 (lit< tt)) h (grind (arith, nat_tests))

  half_same : byte s 1 % 16 ≡ byte w 1 % 16
  half_same =
      let is_s = lower_half (byte s 1) (l.bytes 1 (omega (arith, inside 1))) in
      let is_w = lower_half (byte w 1) low_bytes.at_1 in
      let b_0 = bit_1 0 (lit< tt) refl in
      let b_1 = bit_1 1 (lit< tt) refl in
      let b_2 = bit_1 2 (lit< tt) refl in
      let b_3 = bit_1 3 (lit< tt) refl in
      cc

  marks_1_same : markers_1 (byte s 1) ≡ markers_1 (byte w 1)
  marks_1_same = rw (bit_1 7 (lit< tt) refl, bit_1 5 (lit< tt) refl, bit_1 4 (lit< tt) refl)

  -- byte 5: the bits that must be 1, and in a datagram section all
  bit_5 : (b : ℕ) → b < 8 → (leb 1 b && leb b 5) ≡ false → bit (byte s 5) b ≡ bit (byte w 5) b
  bit_5 b h marker = l.bits 5 b (inside 5 (lit< tt)) h (grind (arith, nat_tests))

  marks_5_same : markers_5 (byte s 5) ≡ markers_5 (byte w 5)
  marks_5_same = rw (bit_5 7 (lit< tt) refl, bit_5 6 (lit< tt) refl, bit_5 0 (lit< tt) refl)

  plain_same : (h : Header) → HeaderIn w h → plain_rule (byte w 0) (byte s 5) ≡ plain_rule (byte w 0) (byte w 5)
  plain_same (Datagram h) of = rw (same_if_read 5 (inside 5 (lit< tt)) (λ b. rw of.0) low_bytes.at_5)
  plain_same (Check h) of = rw of.0

  -- the numbers in the header of a check column
  column_same : byte w 0 ≡ table_id_of check_kind → (byte s 3 ≡ byte w 3) × (byte s 6 ≡ byte w 6) × (byte s 7 ≡ byte w 7)
  column_same is =
      let fields = (or_else_none _ _ (p.column is)).0 in
      let e_3 = or_else_none (when (ltb 190 (byte w 3)) (Field 3)) _ fields in
      let e_6 = or_else_none (when (ltb (byte w 7) (byte w 6)) (Field 6)) _ e_3.1 in
      let e_7 = or_else_none (when (leb m (byte w 7)) (Field 7)) _ e_6.1 in
      let padding = ltb-false 190 (byte w 3) (when_none _ _ e_3.0) in
      let number = ltb-false (byte w 7) (byte w 6) (when_none _ _ e_6.0) in
      let last = leb-false m (byte w 7) (when_none _ _ e_7.0) in
      (same 3 (lit< tt) refl (omega arith), same 6 (lit< tt) refl (omega arith), same 7 (lit< tt) refl (omega arith))

  field_same : (h : Header) → HeaderIn w h → (address size : ℕ)
      → field_rule R m (byte w 0) (byte s 3) (byte s 6) (byte s 7) address size ≡ field_rule R m (byte w 0) (byte w 3) (byte w 6) (byte w 7) address size
  field_same (Datagram h) (is, _, _, _) address size =
      let zero_6 = p.zero_6 is in
      let zero_7 = p.zero_7 is in
      rw (is, same 6 (lit< tt) refl (omega arith), same 7 (lit< tt) refl (omega arith))
  field_same (Check h) (is, _, _, _) address size =
      let c = column_same is in
      rw (is, c.0, c.1, c.2)

  -- so every rule of reading says the same of both
  rules_same : read_rules R m s ≡ read_rules R m w
  rules_same =
      let address : (timing_of s).address ≡ (timing_of w).address = ap (λ (t : RealTime). t.address) timing_same in
      let same_2 = same 2 (lit< tt) refl low_bytes.at_2 in
      let checked : crc s ≡ crc w = l.checked ∙ sym p.crc_0 in
      let header = there.1.header in
      rw (payload_same, address, l.size, same_0, half_same, same_2, marks_1_same, marks_5_same, plain_same f.header header, checked, field_same f.header header)

  header_same : (h : Header) → HeaderIn w h → SameHeader h (header_of s)
  header_same (Datagram h) of = rw (same_0, of.0) tt
  header_same (Check h) (is, padding, number, last) =
      let c = column_same is in
      rw (same_0, is, c.0, c.1, c.2) (λ i. record { padding_columns = padding i; number = number i; last = last i })

  reads : Reads R m s f
  reads = record {
    passes = subst Passes (sym rules_same) there.0;
    timing = timing_same ∙ sym there.1.timing;
    payload = payload_same ∙ sym there.1.payload;
    header = header_same f.header there.1.header;
  }

-- a section that is laid out as such is read, and its fields are read back
pub laid_out_reads : (R m : ℕ) → m ≤ 64 → (s : List ℕ) (f : Fields) → LaidOut R m s f → Reads R m s f
laid_out_reads R m few s f l = reads few l

-- what is written from fields that can be written is laid out as a section with these fields
pub written_laid_out : (R m : ℕ) (f : Fields) → Bytes (written_from f) → Bytes f.payload → Passes (write_rules R m f.header f.timing f.payload 4096) → LaidOut R m (written_from f) f
written_laid_out R m f bytes payload_bytes writable = record {
  bytes = bytes;
  payload_bytes = payload_bytes;
  writable = writable;
  size = refl;
  bits = λ k b inside h read. refl;
  checked = (passed R m (written_from f) (passes_back R m f.header f.timing f.payload 4096 writable)).crc_0;
}
