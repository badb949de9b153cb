-- What the answer of take means: the section is entered into the table, and one of a lawful frame's own is never turned away.
use Rattle.std.proofs.Common.{◌≡◌, ℕ, ◌<◌, ◌≤◌, Bool, true, false, cond, ◌==◌, ◌||◌, ⊎_elim, List, length, Some, Ok, Err, Result, OnOk, refl, ap, sym, arith}
use Rattle.std.proofs.lemmas.Bool.{and_parts, or_cases, leb-true}
use Rattle.std.proofs.lemmas.Option.{none-some, same_Some}
use Rattle.octets.specs.Octets.{byte}
use Rattle.geometry.specs.Sizes.{buffers_rule}
use Rattle.refusal.specs.declared.Refusal.{Refusal}
use Rattle.refusal.specs.declared.Refusal.TheVariants.{FrameBuffers}
use Rattle.refusal.specs.Refusals.{number_of}
use Rattle.refusal.specs.Rules.{Verdict, when, or_else, Passes, Answers}
use Rattle.refusal.proofs.Order.{when_not_none}
use Rattle.section.specs.declared.kinds.Kind.TheVariants.{Datagram as datagram_kind}
use Rattle.section.specs.declared.reading.DatagramHeader.{DatagramHeader}
use Rattle.section.specs.declared.reading.CheckHeader.{CheckHeader}
use Rattle.section.specs.declared.reading.Header.TheVariants.{Datagram, Check}
use Rattle.section.specs.Kinds.{table_id_of}
use Rattle.section.specs.declared.datagrams.IpVersion.{IpVersion}
use Rattle.section.specs.Datagrams.{whole_as}
use Rattle.section.specs.declared.datagrams.IpVersion.TheVariants.{V4, V6}
use Rattle.section.specs.Rules.{read_rules}
use Rattle.section.specs.Sections.{payload_of}
use Rattle.frame.specs.Fields.{Fields, header_of, fields_of}
use Rattle.table.specs.Tables.{Table}
use Rattle.table.specs.Telling.{is_datagram}
use Rattle.table.specs.Bursts.{Numbers, table_of}
use Rattle.table.specs.Rules.{table_rules, section_rules, take_rules}
use Rattle.table.specs.Taking.{Took, Stored, Entered}
use Rattle.table.specs.Laws.{TakesItsOwn, KeepsAgreeing}
use Rattle.table.proofs.Own.{own_admits, own_right}
use Rattle.table.proofs.Entering.{still_agrees}
use Rattle.table.proofs.Taken.{took_enters, took_stores}
use Rattle.table.proofs.Order.{both_pass, rest_passes, front_passes, back_passes, refused_by_first}

-- wrong buffers are refused under 2
buffers_number : (one other : Bool) (e : Refusal) → or_else (when one FrameBuffers) (when other FrameBuffers) ≡ Some e → number_of e ≡ 2
buffers_number true other e some = ap number_of (sym (same_Some FrameBuffers e some))
buffers_number false true e some = ap number_of (sym (same_Some FrameBuffers e some))
buffers_number false false e some = absurd (none-some e some)

-- a section of the frame's own is refused under 2 at most
pub takes_own : {T : Type 0} (m : ℕ) (codeword : List ℕ → Type 0) (t : Table) (s : List ℕ) (cells marks : ℕ) (Done : T → Type 0) (r : Result T Refusal)
    → m ≤ 64 → Answers (take_rules m t s cells marks) Done r → TakesItsOwn m codeword t s r
takes_own m codeword t s cells marks Done (Ok x) few answer frame lawful agrees comes = tt
takes_own m codeword t s cells marks Done (Err e) few refused frame lawful agrees comes =
    let admits = own_admits m codeword t frame s few lawful agrees comes in
    let pass = both_pass (read_rules t.rows m s) (table_rules t (fields_of s)) admits.reading admits.table in
    buffers_number _ _ e (refused_by_first (buffers_rule m t.rows cells marks) (section_rules m t s) e refused pass)

-- a whole datagram has some byte
long : (v : IpVersion) (d : List ℕ) → whole_as v d ≡ true → 0 < length d
long V4 d is = omega (arith, leb-true 20 (length d) (and_parts _ _ (and_parts _ _ is).0).1)
long V6 d is = omega (arith, leb-true 20 (length d) (and_parts _ _ (and_parts _ _ is).0).1)

-- a section with the header of a datagram has its table_id
with_id : (id : Bool) (h : DatagramHeader) (k : CheckHeader) → is_datagram (cond id (Datagram h) (Check k)) ≡ true → id ≡ true
with_id true h k is = refl
with_id false h k is = cc

-- and so has that of a datagram section that was read
some_byte : (R m : ℕ) (s : List ℕ) → Passes (read_rules R m s) → is_datagram (header_of s) ≡ true → 0 < length (payload_of s)
some_byte R m s passes is =
    let d = payload_of s in
    let id = with_id (byte s 0 == table_id_of datagram_kind) _ _ is in
    let whole : (whole_as V4 d || whole_as V6 d) ≡ true = when_not_none _ _ (rw id at (passes.none 7)) in
    ⊎_elim (long V4 d) (long V6 d) (or_cases _ _ whole)

-- the payload of a section that was taken stands in its cells
pub takes_stored : {T : Type 0} (rules : List Verdict) (f : Fields) (arrival : ℕ) (before : Numbers) (cells marks : List ℕ) (after : Numbers) (cells_after marks_after : List ℕ) (r : Result T Refusal)
    → Answers rules (λ _. Took f arrival before cells marks after cells_after marks_after) r → OnOk r (Stored before.rows f cells_after marks_after)
takes_stored rules f arrival before cells marks after cells_after marks_after (Ok x) answer = took_stores f arrival before cells marks after cells_after marks_after answer.1
takes_stored rules f arrival before cells marks after cells_after marks_after (Err e) answer = tt

-- and the table that is seen afterwards is that with the section entered
pub takes_entered : {T : Type 0} (m : ℕ) (s : List ℕ) (arrival : ℕ) (before : Numbers) (cells marks : List ℕ) (after : Numbers) (cells_after marks_after : List ℕ) (r : Result T Refusal)
    → Answers (take_rules m (table_of before cells marks) s (length cells) (length marks)) (λ _. Took (fields_of s) arrival before cells marks after cells_after marks_after) r
    → OnOk r (Entered (table_of before cells marks) (fields_of s) (table_of after cells_after marks_after))
takes_entered m s arrival before cells marks after cells_after marks_after (Ok x) (passes, took) =
    let t = table_of before cells marks in
    let pass = rest_passes (buffers_rule m before.rows (length cells) (length marks)) (section_rules m t s) passes in
    let read = front_passes (read_rules before.rows m s) (table_rules t (fields_of s)) pass in
    let known = back_passes (read_rules before.rows m s) (table_rules t (fields_of s)) pass in
    took_enters (fields_of s) arrival before cells marks after cells_after marks_after took (some_byte before.rows m s read) known
takes_entered m s arrival before cells marks after cells_after marks_after (Err e) answer = tt

-- which agrees with the frame that the section comes from, as before
pub takes_keeping : {T : Type 0} (m : ℕ) (codeword : List ℕ → Type 0) (t : Table) (s : List ℕ) (after : Table) (r : Result T Refusal)
    → m ≤ 64 → OnOk r (Entered t (fields_of s) after) → KeepsAgreeing m codeword t s after r
takes_keeping m codeword t s after (Ok x) few entered frame lawful agrees comes =
    still_agrees m codeword frame t (fields_of s) after lawful agrees (own_right m t.rows codeword frame s few lawful comes) entered
takes_keeping m codeword t s after (Err e) few entered frame lawful agrees comes = tt
