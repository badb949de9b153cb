-- Fields that were read can be written: no rule of writing turns them away.
use Rattle.std.proofs.Common.{◌≡◌, ℕ, ◌^◌, true, ltb, leb, List, length, None, refl, arith}
use Rattle.std.proofs.lemmas.Bool.{le-leb, lt-leb, le-ltb, lt-ltb}
use Rattle.std.proofs.Math.Bool.{and-true}
use Rattle.octets.specs.Octets.{Bytes}
use Rattle.refusal.specs.Rules.{Passes}
use Rattle.refusal.proofs.Order.{first_passes}
use Rattle.section.specs.declared.reading.Header.{Header}
use Rattle.section.specs.declared.reading.Header.TheVariants.{Datagram, Check}
use Rattle.section.specs.Writing.{write_field_rule, write_payload_rule, write_rules}
use Rattle.section.specs.Sections.{payload_of, timing_of, HeaderIn}
use Rattle.section.proofs.Passed.{Passed}
use Rattle.section.proofs.Messages.{payload_length}

module _ {R m : ℕ} {s : List ℕ} (bytes : Bytes s) (p : Passed R m s) where
  field_passes : (h : Header) → HeaderIn s h → write_field_rule R m h (timing_of s).address (length (payload_of s)) ≡ None
  field_passes (Datagram h) of = rw (lt-leb (2 ^ 18) (timing_of s).address (omega arith))
  field_passes (Check h) (is, padding, number, last) =
      let address : ltb (timing_of s).address (2 ^ 18) ≡ true = lt-ltb _ _ (omega arith) in
      let size : leb (length (payload_of s)) 4080 ≡ true = le-leb _ _ (omega (arith, payload_length bytes p)) in
      simp (address, size, and-true, padding, number, last) (p.column is)

  payload_passes : (h : Header) → HeaderIn s h → write_payload_rule h (payload_of s) ≡ None
  payload_passes (Datagram h) of = rw of.3
  payload_passes (Check h) of = refl

  pub writable : (h : Header) → HeaderIn s h → Passes (write_rules R m h (timing_of s) (payload_of s) 4096)
  writable h of = first_passes _ (rw (field_passes h of, payload_passes h of, le-ltb 4095 (timing_of s).delta_t (omega arith)))
