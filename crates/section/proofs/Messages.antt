-- The header and the payload, written from the fields that were read, are alike to those of the section.
use Rattle.std.proofs.Common.{◌≡◌, ℕ, ◌+◌, ◌-◌, ◌/◌, ◌%◌, List, [], ◌∷◌, ◌++◌, length, drop, sym, refl, ◌∙◌, subst, arith, rules}
use Rattle.std.proofs.lemmas.List.{length-take, length-drop, get_or-take, get_or-drop}
use Rattle.octets.specs.Octets.{Bytes, byte, word32}
use Rattle.crc32.specs.Crc.{big_endian}
use Rattle.section.specs.declared.reading.Header.{Header}
use Rattle.section.specs.declared.reading.Header.TheVariants.{Datagram, Check}
use Rattle.section.specs.Kinds.{table_id_of}
use Rattle.section.specs.RealTimes.{real_time_word}
use Rattle.section.specs.Sections.{payload_of, timing_of, HeaderIn}
use Rattle.section.specs.Layout.{kind_of, bytes_of_kind, header_bytes}
use Rattle.crc32.proofs.Words.{word_bytes}
use Rattle.section.proofs.Alike.{Alikes, in_front, alike_same, alike_1, alike_4_check, alike_5_datagram, alike_5_check}
use Rattle.section.proofs.Passed.{Passed}

module _ {R m : ℕ} {s : List ℕ} (bytes : Bytes s) (p : Passed R m s) where
  pub payload_length : 16 + length (payload_of s) ≡ length s
  payload_length = simp (length-take, length-drop) (omega arith)

  payload_alikes : Alikes (byte s 0) 12 (payload_of s) s
  payload_alikes =
      let n = payload_length in
      record { each = λ k h. alike_same (get_or-take _ (drop 12 s) k 0 (omega arith) ∙ get_or-drop 12 s k 0) (bytes (12 + k) (omega arith)) }

  -- from byte 8 on: the fields side by side are the number that they were read from
  timing_alikes : Alikes (byte s 0) 8 (big_endian (real_time_word (timing_of s)) ++ payload_of s) s
  timing_alikes =
      let b_8 = bytes 8 (omega arith) in
      let b_9 = bytes 9 (omega arith) in
      let b_10 = bytes 10 (omega arith) in
      let b_11 = bytes 11 (omega arith) in
      let word : real_time_word (timing_of s) ≡ word32 s 8 = search rules in
      let again : big_endian (real_time_word (timing_of s)) ≡ byte s 8 ∷ byte s 9 ∷ byte s 10 ∷ byte s 11 ∷ []
      = search (rules, word_bytes) in
      subst (λ ws. Alikes (byte s 0) 8 (ws ++ payload_of s) s) (sym again)
      (in_front (alike_same refl b_8) (in_front (alike_same refl b_9) (in_front (alike_same refl b_10) (in_front (alike_same refl b_11) payload_alikes))))

  -- from byte 3 on, in front of what is alike from byte 8 on
  kind_alikes : (h : Header) → HeaderIn s h → (ws vs : List ℕ) → Alikes (byte s 0) 8 (ws ++ vs) s → Alikes (byte s 0) 3 ((bytes_of_kind h ++ ws) ++ vs) s
  kind_alikes (Datagram h) (is, mac_6, mac_5, _) ws vs rest =
      in_front (alike_same mac_6 (bytes 3 (omega arith)))
      (in_front (alike_same mac_5 (bytes 4 (omega arith)))
      (in_front (rw is (alike_5_datagram (byte s 5) (bytes 5 (omega arith)) p.marked_5 (p.plain is)))
      (in_front (alike_same (sym (p.zero_6 is)) (bytes 6 (omega arith)))
      (in_front (alike_same (sym (p.zero_7 is)) (bytes 7 (omega arith))) rest))))
  kind_alikes (Check h) (is, padding, number, last) ws vs rest =
      in_front (alike_same padding (bytes 3 (omega arith)))
      (in_front (rw is (alike_4_check (byte s 4)))
      (in_front (rw is (alike_5_check (byte s 5) (bytes 5 (omega arith)) p.marked_5))
      (in_front (alike_same number (bytes 6 (omega arith)))
      (in_front (alike_same last (bytes 7 (omega arith))) rest))))

  kind_read : (h : Header) → HeaderIn s h → table_id_of (kind_of h) ≡ byte s 0
  kind_read (Datagram h) of = sym of.0
  kind_read (Check h) of = sym of.0

  pub message_alikes : (h : Header) → HeaderIn s h → Alikes (byte s 0) 0 (header_bytes h (timing_of s) (length (payload_of s)) ++ payload_of s) s
  message_alikes h of =
      let low = bytes 2 (omega arith) in
      let high : (16 + length (payload_of s) - 3) / 256 ≡ byte s 1 % 16 = rw payload_length (omega arith) in
      in_front (alike_same (kind_read h of) (bytes 0 (omega arith)))
      (in_front (rw high (alike_1 (byte s 0) (byte s 1) (bytes 1 (omega arith)) p.marked_1))
      (in_front (alike_same (rw payload_length (omega arith)) low)
      (kind_alikes h of (big_endian (real_time_word (timing_of s))) (payload_of s) timing_alikes)))
