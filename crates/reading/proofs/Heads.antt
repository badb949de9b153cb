-- What is decided of a place, by the head that stands there.
use Rattle.std.proofs.Common.{◌≡◌, ℕ, ◌+◌, ◌/◌, ◌≤◌, Bool, true, false, ◌&&◌, ◌⊎◌, cond, List, length, drop, Some, None, nat_lt, refl, sym, ◌∙◌, inl, inr, arith, get_or-drop, length-drop, add-zero}
use Rattle.std.proofs.lemmas.Bool.{and_parts, and_cases, and_left, and_right, eqb-true, eq-eqb, ltb-false, le-ltb, both_ways}
use Rattle.octets.specs.Octets.{byte}
use Rattle.section.specs.declared.datagrams.IpVersion.{IpVersion}
use Rattle.section.specs.declared.datagrams.IpVersion.TheVariants.{V4, V6}
use Rattle.section.specs.Datagrams.{told_length}
use Rattle.frame.specs.declared.heads.Head.{Head}
use Rattle.frame.specs.Heads.{length_end, begins_as, head_of}
use Rattle.reading.specs.declared.decisions.Decision.TheVariants.{NotTold}
use Rattle.reading.specs.Decisions.{can_read, length_begin, sized, told_as, has_version, decision_at}

-- byte 0 can be read and has this version
decided_as : (v : IpVersion) (cells marks : List ℕ) (place : ℕ) → can_read cells marks place ≡ true → has_version v cells place ≡ true
    → decision_at cells marks place ≡ told_as v cells marks place
unfolding decision_at
decided_as V4 cells marks place reads has = rw (reads, has)
decided_as V6 cells marks place reads has =
    let six : byte cells place / 16 ≡ 6 = eqb-true _ _ has in
    rw (reads, six)

begins_there : (v : IpVersion) (cells : List ℕ) (place : ℕ) → begins_as v (drop place cells) ≡ (has_version v cells place && nat_lt (length_end v) (length (drop place cells)))
begins_there v cells place = rw (get_or-drop place cells 0 0, add-zero)

one_of : (a b : Bool) (four six h : Head) → Some h ≡ cond a (Some four) (cond b (Some six) None) → ((a ≡ true) × (h ≡ four)) ⊎ ((b ≡ true) × (h ≡ six))
one_of true b four six h is = inl (refl, cc)
one_of false true four six h is = inr (refl, cc)
one_of false false four six h is = absurd cc

none_of : (a b : Bool) (four six : Head) → None ≡ cond a (Some four) (cond b (Some six) None) → (a ≡ false) × (b ≡ false)
none_of true b four six is = absurd cc
none_of false true four six is = absurd cc
none_of false false four six is = (refl, refl)

-- a head stands there, and so its version and its length decide
by_head : (v : IpVersion) (cells marks : List ℕ) (place : ℕ) (h : Head) → begins_as v (drop place cells) ≡ true → h ≡ record { version = v; length = told_length v (drop place cells) } → can_read cells marks place ≡ true
    → cond (can_read cells marks (place + length_begin h.version) && can_read cells marks (place + length_end h.version)) (sized cells marks place h.length) NotTold ≡ decision_at cells marks place
by_head v cells marks place h begins is reads =
    rw is (sym (decided_as v cells marks place reads (and_parts _ _ (rw (begins_there v cells place) at begins)).0))

pub decided_by_head : (cells marks : List ℕ) (place : ℕ) (h : Head) → Some h ≡ head_of (drop place cells) → can_read cells marks place ≡ true
    → cond (can_read cells marks (place + length_begin h.version) && can_read cells marks (place + length_end h.version)) (sized cells marks place h.length) NotTold ≡ decision_at cells marks place
decided_by_head cells marks place h is reads =
    elim (one_of (begins_as V4 (drop place cells)) (begins_as V6 (drop place cells)) _ _ h is) [
      | inl four ↦ by_head V4 cells marks place h four.0 four.1 reads
      | inr six ↦ by_head V6 cells marks place h six.0 six.1 reads
    ]

-- where a version stands with no head, the cells end before the length does
ends_before : (v : IpVersion) (cells : List ℕ) (place : ℕ) → begins_as v (drop place cells) ≡ false → has_version v cells place ≡ true → length cells ≤ place + length_end v
ends_before v cells place not has =
    elim (and_cases _ _ (rw (begins_there v cells place) at not)) [
      | inl other ↦ absurd (both_ways _ other has)
      | inr ends ↦ omega (arith, ltb-false _ _ ends, length-drop place cells)
    ]

untold : (v : IpVersion) (cells marks : List ℕ) (place : ℕ) → begins_as v (drop place cells) ≡ false → can_read cells marks place ≡ true → has_version v cells place ≡ true → NotTold ≡ decision_at cells marks place
untold v cells marks place not reads has =
    let beyond : can_read cells marks (place + length_end v) ≡ false = and_left _ _ (le-ltb _ _ (ends_before v cells place not has)) in
    sym (decided_as v cells marks place reads has ∙ rw (and_right (can_read cells marks (place + length_begin v)) _ beyond))

pub length_missing : (cells marks : List ℕ) (place : ℕ) → None ≡ head_of (drop place cells) → can_read cells marks place ≡ true → (byte cells place / 16 ≡ 4) ⊎ (byte cells place / 16 ≡ 6)
    → NotTold ≡ decision_at cells marks place
length_missing cells marks place none reads (inl four) = untold V4 cells marks place (none_of _ _ _ _ none).0 reads (eq-eqb _ _ four)
length_missing cells marks place none reads (inr six) = untold V6 cells marks place (none_of _ _ _ _ none).1 reads (eq-eqb _ _ six)
