-- The rules of writing in their order, as the code comes to them.
use Rattle.std.proofs.Common.{◌≡◌, ℕ, ◌^◌, not, eqb, List, [], ◌∷◌, length, Some, None, Ok, Err, Result, ◌∙◌}
use Rattle.std.proofs.lemmas.Bool.{lt-leb}
use Rattle.refusal.specs.declared.Refusal.{Refusal}
use Rattle.refusal.specs.declared.Refusal.TheVariants.{Unwritable}
use Rattle.refusal.specs.Rules.{Verdict, when, first, Refused, Passes, Answers}
use Rattle.refusal.proofs.Order.{or_else_none, first_append, first_passes, first_refuses, refused_front, refused_first}
use Rattle.section.specs.declared.frame_size.FrameSize.{FrameSize}
use Rattle.section.specs.declared.reading.Section.{Section}
use Rattle.section.specs.Writing.{write_field_rule, write_payload_rule, unwritable_rule, write_rules, timing_rules}
use Rattle.section_writer.proofs.Allowed.{address_low}

module _ (frame : FrameSize) (x : Section) (room : ℕ) where
  -- 10 and 11
  abbrev content : List Verdict
  content =
      write_field_rule frame.rows frame.check_columns x.header x.timing.address (length x.payload.now) ∷ write_payload_rule x.header x.payload.now ∷ []

  -- all of them
  abbrev in_order : List Verdict
  in_order = write_rules frame.rows frame.check_columns x.header x.timing x.payload.now room

  pub content_refused : {e : Refusal} → first content ≡ Some e → Refused in_order e
  content_refused some = refused_front content (unwritable_rule room x.timing.delta_t ∷ []) some

  -- once 10 and 11 have passed, 15 is left
  late : first content ≡ None → first in_order ≡ first (unwritable_rule room x.timing.delta_t ∷ [])
  late none = first_append content (unwritable_rule room x.timing.delta_t ∷ []) ∙ rw none

  pub buffer_refused : {e : Refusal} → first content ≡ None → when (not (eqb room 4096)) Unwritable ≡ Some e → Refused in_order e
  buffer_refused none some = first_refuses in_order _ (late none ∙ rw some)

  -- an address that is not refused has 18 bits, so that only delta_t can still be in the way of the real-time parameters
  pub timing_refused : {e : Refusal} → first content ≡ None → when (not (eqb room 4096)) Unwritable ≡ None → Refused (timing_rules x.timing) e → Refused in_order e
  timing_refused none fits refused =
      let low = lt-leb (2 ^ 18) x.timing.address (address_low frame.rows frame.check_columns x.header x.timing.address (length x.payload.now) (or_else_none _ _ none).0) in
      first_refuses in_order _ (late none ∙ rw fits (rw low at (refused_first (timing_rules x.timing) _ refused)))

  pub all_pass : first content ≡ None → when (not (eqb room 4096)) Unwritable ≡ None → Passes (timing_rules x.timing) → Passes in_order
  all_pass none fits timing = first_passes in_order (late none ∙ rw (fits, timing.none 1))

  -- what the parameters' own rules answer is then the answer of all
  pub timing_answers : (Done : List ℕ → Type 0) → first content ≡ None → when (not (eqb room 4096)) Unwritable ≡ None
      → (r : Result (List ℕ) Refusal) → Answers (timing_rules x.timing) Done r → Answers in_order Done r
  timing_answers Done none fits (Ok bytes) (passes, done) = (all_pass none fits passes, done)
  timing_answers Done none fits (Err e) refused = timing_refused none fits refused
