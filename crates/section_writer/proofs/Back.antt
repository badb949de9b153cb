-- What is written from fields that can be written is read back to the same fields.
use Rattle.std.proofs.Common.{◌≡◌, ℕ, ◌+◌, ◌-◌, ◌*◌, ◌/◌, ◌%◌, ◌^◌, ◌<◌, true, eqb, List, ◌++◌, length, drop, None, sym, subst, refl, ap, ◌∙◌, arith, rules}
use Rattle.std.proofs.lemmas.List.{take_at}
use Rattle.std.proofs.lemmas.Bool.{and_parts, eqb-true, le-ltb, eq-eqb, or_right, agree_below_at}
use Rattle.octets.specs.Octets.{byte, section_length}
use Rattle.crc32.specs.Crc.{crc, big_endian}
use Rattle.crc32.proofs.Closing.{closed}
use Rattle.refusal.specs.Rules.{Passes}
use Rattle.refusal.proofs.Order.{when_not_none, first_passes}
use Rattle.section.specs.declared.datagrams.IpVersion.{IpVersion}
use Rattle.section.specs.declared.datagrams.IpVersion.TheVariants.{V4, V6}
use Rattle.section.specs.declared.reading.Header.{Header}
use Rattle.section.specs.declared.reading.Header.TheVariants.{Datagram, Check}
use Rattle.section.specs.declared.reading.Section.{Section}
use Rattle.section.specs.declared.timing.RealTime.{RealTime}
use Rattle.section.specs.Kinds.{table_rule}
use Rattle.section.specs.Datagrams.{version_number, whole_as, whole_rule}
use Rattle.section.specs.RealTimes.{real_time_word, real_time_of}
use Rattle.section.specs.Rules.{markers_1, markers_5, plain_rule, field_rule, payload_rule, read_rules}
use Rattle.section.specs.Writing.{write_rules}
use Rattle.section.specs.Sections.{payload_of, timing_of, HeaderIn}
use Rattle.section.specs.Layout.{written, written_of}
use Rattle.section.specs.Laws.{ReadsAs}
use Rattle.section.proofs.LaidOut.{message, written_length}
use Rattle.crc32.proofs.Words.{word_again}
use Rattle.section_writer.proofs.Allowed.{column_parts, bounds}

fields_back : (t : RealTime) → t.delta_t < 2 ^ 12 → t.address < 2 ^ 18 → real_time_of (real_time_word t) ≡ t
fields_back t h k = search rules

-- what stands behind the header is the payload and CRC_32
behind : (h : Header) (t : RealTime) (payload : List ℕ) → drop 12 (written h t payload) ≡ payload ++ big_endian (crc (message h t payload))
unfolding written
behind (Datagram h) t payload = refl
behind (Check h) t payload = refl

payload_back : (h : Header) (t : RealTime) (payload : List ℕ) → payload_of (written h t payload) ≡ payload
payload_back h t payload =
    let n : length (written h t payload) - 16 ≡ length payload = omega (arith, written_length h t payload) in
    rw (n, behind h t payload, take_at)

timing_back : (h : Header) (t : RealTime) (payload : List ℕ) → t.delta_t < 2 ^ 12 → t.address < 2 ^ 18 → timing_of (written h t payload) ≡ t
unfolding written
timing_back (Datagram h) t payload short low = ap real_time_of (word_again (real_time_word t)) ∙ fields_back t short low
timing_back (Check h) t payload short low = ap real_time_of (word_again (real_time_word t)) ∙ fields_back t short low

crc_back : (h : Header) (t : RealTime) (payload : List ℕ) → crc (written h t payload) ≡ 0
unfolding written
crc_back h t payload = (closed (message h t payload)).0

-- bytes 1 and 2
length_back : (h : Header) (t : RealTime) (payload : List ℕ)
    → (byte (written h t payload) 1 ≡ 0xB0 + (16 + length payload - 3) / 256) × (byte (written h t payload) 2 ≡ (16 + length payload - 3) % 256)
unfolding written
length_back h t payload = (refl, refl)

-- the bits that must be 1 stand above section_length
marked : (q : ℕ) → q < 16 → markers_1 (0xB0 + q) ≡ true
marked q = agree_below_at (λ q. markers_1 (0xB0 + q)) (λ q. true) 16 q refl

whole_passes : (v : IpVersion) (d : List ℕ) → whole_as v d ≡ true → whole_rule d 12 ≡ None
whole_passes V4 d is = rw is
whole_passes V6 d is = rw (or_right (whole_as V4 d) (whole_as V6 d) is)

-- the rules that only the kind of section decides
kind_passes : (R m : ℕ) (h : Header) (t : RealTime) (payload : List ℕ) (room : ℕ) → Passes (write_rules R m h t payload room)
    → (table_rule (byte (written h t payload) 0) ≡ None)
    × (markers_5 (byte (written h t payload) 5) ≡ true)
    × (plain_rule (byte (written h t payload) 0) (byte (written h t payload) 5) ≡ None)
    × (field_rule R m (byte (written h t payload) 0) (byte (written h t payload) 3) (byte (written h t payload) 6) (byte (written h t payload) 7) t.address (length payload) ≡ None)
    × (payload_rule (byte (written h t payload) 0) payload ≡ None)
unfolding written
kind_passes R m (Datagram h) t payload room passes = (refl, refl, refl, refl, whole_passes h.version payload (when_not_none _ _ (passes.none 1)))
kind_passes R m (Check h) t payload room passes = (
  refl,
  refl,
  refl,
  (column_parts m h.padding_columns h.number h.last (eqb t.address (h.number * R)) _ (eqb (length payload) R) _ (passes.none 0)).0,
  refl,
)

pub passes_back : (R m : ℕ) (h : Header) (t : RealTime) (payload : List ℕ) (room : ℕ) → Passes (write_rules R m h t payload room) → Passes (read_rules R m (written h t payload))
passes_back R m h t payload room passes =
    let w = bounds R m h t payload room passes in
    let k = kind_passes R m h t payload room passes in
    let s = written h t payload in
    let size = written_length h t payload in
    let told = length_back h t payload in
    let shortest = le-ltb (length s) 16 (omega arith) in
    let longest = le-ltb 4096 (length s) (omega arith) in
    let length_told = eq-eqb (section_length (byte s 1) (byte s 2)) (length s - 3) (omega arith) in
    let marked_1 : markers_1 (byte s 1) ≡ true = rw told.0 (marked ((16 + length payload - 3) / 256) (omega arith)) in
    let address : (timing_of s).address ≡ t.address = ap (λ (t : RealTime). t.address) (timing_back h t payload w.short w.low) in
    first_passes _ (rw (shortest, longest, k.0, length_told, marked_1, k.1, k.2, crc_back h t payload, address, payload_back h t payload, k.3, k.4))

version_read : (v : IpVersion) (d : List ℕ) → whole_as v d ≡ true → byte d 0 / 16 ≡ version_number v
version_read v d is = eqb-true _ _ (and_parts _ _ (and_parts _ _ (and_parts _ _ is).0).0).0

-- a datagram has one version
one_version : (v w : IpVersion) (d : List ℕ) → whole_as v d ≡ true → whole_as w d ≡ true → v ≡ w
one_version V4 V4 d is also = refl
one_version V4 V6 d is also = absurd (omega (arith, version_read V4 d is, version_read V6 d also))
one_version V6 V4 d is also = absurd (omega (arith, version_read V6 d is, version_read V4 d also))
one_version V6 V6 d is also = refl

-- the header that is read is the one that was written, field by field
header_back : (R m : ℕ) (h : Header) (t : RealTime) (payload : List ℕ) (room : ℕ) → Passes (write_rules R m h t payload room) → (y : Header) → HeaderIn (written h t payload) y → y ≡ h
unfolding written
header_back R m (Datagram h) t payload room passes (Datagram y) (_, six, five, whole) =
    let version = one_version y.version h.version payload (subst (λ d. whole_as y.version d ≡ true) (payload_back (Datagram h) t payload) whole) (when_not_none _ _ (passes.none 1)) in
    λ i. Datagram (record { mac_address_6 = six i; mac_address_5 = five i; version = version i })
header_back R m (Datagram h) t payload room passes (Check y) of = absurd (omega (arith, of.0))
header_back R m (Check h) t payload room passes (Datagram y) of = absurd (omega (arith, of.0))
header_back R m (Check h) t payload room passes (Check y) (_, padding, number, last) =
    λ i. Check (record { padding_columns = padding i; number = number i; last = last i })

-- and it does stand there
header_there : (R m : ℕ) (h : Header) (t : RealTime) (payload : List ℕ) (room : ℕ) → Passes (write_rules R m h t payload room) → HeaderIn (written h t payload) h
unfolding written
header_there R m (Datagram h) t payload room passes =
    (refl, refl, refl, rw (payload_back (Datagram h) t payload) (when_not_none _ _ (passes.none 1)))
header_there R m (Check h) t payload room passes = (refl, refl, refl, refl)

pub reads_back : (R m : ℕ) (x : Section) (room : ℕ) → Passes (write_rules R m x.header x.timing x.payload.now room) → ReadsAs R m (written_of x) x
unfolding ReadsAs
reads_back R m x room passes =
    let w = bounds R m x.header x.timing x.payload.now room passes in
    let timing = timing_back x.header x.timing x.payload.now w.short w.low in
    let payload = payload_back x.header x.timing x.payload.now in (
      passes_back R m x.header x.timing x.payload.now room passes,
      record { header = header_there R m x.header x.timing x.payload.now room passes; timing = sym timing; payload = sym payload },
      λ y of. record {
        header = header_back R m x.header x.timing x.payload.now room passes y.header of.header;
        timing = of.timing ∙ timing;
        payload = of.payload ∙ payload;
      },
    )
