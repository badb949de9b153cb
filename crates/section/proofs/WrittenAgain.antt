-- Reading a section and writing its fields gives the section again.
use Rattle.std.proofs.Common.{◌≡◌, ℕ, ◌+◌, ◌-◌, ◌<◌, true, List, ◌++◌, length, take, drop, sym, ap, ◌∙◌, zero-add, arith}
use Rattle.std.proofs.lemmas.List.{length-take, length-drop, take-append-drop, get_or-take, get_or-drop, ext_get_or}
use Rattle.octets.specs.Octets.{Bytes, byte, bit}
use Rattle.crc32.specs.Crc.{crc, big_endian}
use Rattle.crc32.proofs.Closing.{closed}
use Rattle.refusal.specs.Rules.{Passes}
use Rattle.section.specs.declared.reading.Header.{Header}
use Rattle.section.specs.declared.reading.Section.{Section}
use Rattle.section.specs.Rules.{read_rules}
use Rattle.section.specs.Sections.{payload_of, timing_of, HeaderIn, SectionOf}
use Rattle.section.specs.Layout.{written, unread}
use Rattle.section.specs.Laws.{WrittenAgain}
use Rattle.section.proofs.Alike.{Alike, same_if_alike}
use Rattle.section.proofs.Passed.{Passed, passed}
use Rattle.section.proofs.LaidOut.{message, message_length, written_length, in_message}
use Rattle.section.proofs.Messages.{payload_length, message_alikes}
use Rattle.section.proofs.Writable.{writable}

-- the section that is written from the fields of s, and the same without its CRC_32
abbrev again : List ℕ → Header → List ℕ
again s h = written h (timing_of s) (payload_of s)

abbrev before_crc : List ℕ → Header → List ℕ
before_crc s h = message h (timing_of s) (payload_of s)

module _ {R m : ℕ} {s : List ℕ} (bytes : Bytes s) (p : Passed R m s) (h : Header) where
  front_length : length (before_crc s h) + 4 ≡ length s
  front_length = omega (arith, message_length h (timing_of s) (payload_of s), payload_length bytes p)

  alike : HeaderIn s h → (k : ℕ) → k + 4 < length s → Alike (byte s 0) k (byte (again s h) k) (byte s k)
  alike of k l =
      let n : k < length (before_crc s h) = omega (arith, front_length) in
      rw (in_message h (timing_of s) (payload_of s) k n) (rw zero-add at ((message_alikes bytes p h of).each k n))

  -- no other four bytes than those of CRC_32 stand behind the message in a section that passes
  same_crc : before_crc s h ≡ take (length s - 4) s → again s h ≡ s
  unfolding written
  same_crc front =
      let end = drop (length s - 4) s in
      let whole : before_crc s h ++ end ≡ s = ap (λ a. a ++ end) front ∙ take-append-drop (length s - 4) s in
      let four : length end ≡ 4 = simp length-drop (omega arith) in
      let is_crc : end ≡ big_endian (crc (before_crc s h))
      = (closed (before_crc s h)).1 end four (λ k l. rw get_or-drop (bytes (length s - 4 + k) (omega arith))) (ap crc whole ∙ p.crc_0) in
      ap (λ b. before_crc s h ++ b) (sym is_crc) ∙ whole

  same : HeaderIn s h → ((k b : ℕ) → b < 8 → unread (byte s 0) k b ≡ true → bit (byte (again s h) k) b ≡ bit (byte s k) b) → again s h ≡ s
  same of rest =
      let n = front_length in
      same_crc
      (ext_get_or 0 (before_crc s h) (take (length s - 4) s) (omega (arith, length-take (length s - 4) s))
      (λ k l. sym (in_message h (timing_of s) (payload_of s) k l) ∙ same_if_alike (byte s 0) k _ _ (alike of k (omega arith)) (bytes k (omega arith)) (rest k)
      ∙ sym (get_or-take (length s - 4) s k 0 (omega arith))))

pub written_again : (R m : ℕ) (s : List ℕ) (x : Section) → Bytes s → Passes (read_rules R m s) → SectionOf s x → WrittenAgain R m s x
written_again R m s x bytes passes of =
    let p = passed R m s passes in
    let h = x.header in
    record {
      writable = rw (of.timing, of.payload) (writable bytes p h of.header);
      size = rw (of.timing, of.payload) (written_length h (timing_of s) (payload_of s) ∙ payload_length bytes p);
      bits = λ k b l j read. rw (of.timing, of.payload) ((alike bytes p h of.header k l).bits b j read);
      same = rw (of.timing, of.payload) (same bytes p h of.header);
    }
