-- Bytes that are alike: what is written at a place, and what was read there, agree in every bit that is read.
use Rattle.std.proofs.Common.{◌≡◌, ℕ, zero, suc, ◌+◌, ◌%◌, ◌<◌, Bool, true, false, not, ◌&&◌, ◌||◌, List, ◌∷◌, length, ⊎_elim, add-zero, add-suc, suc-add, refl, sym, ◌∙◌, arith, lit<}
use Rattle.std.proofs.lemmas.Bool.{true≢false, cases_Bool, and_parts, agree_below, agree_below_at}
use Rattle.std.proofs.Math.Bool.{beq, or-false}
use Rattle.std.specs.Cmp.{booleans_Decides}
use Rattle.octets.specs.Octets.{byte, bit}
use Rattle.section.specs.declared.kinds.Kind.TheVariants.{Datagram, Check}
use Rattle.section.specs.Kinds.{table_id_of}
use Rattle.section.specs.Rules.{markers_1, markers_5, scrambled_or_wrapped}
use Rattle.section.specs.Layout.{unread}
use Rattle.octets.proofs.EightBits.{same_byte}

-- w as written, b as read, at a place of a section with this table_id
pub record Alike (id place w b : ℕ) : Type 0 where
  pub written : w < 256
  pub bits : (k : ℕ) → k < 8 → unread id place k ≡ false → bit w k ≡ bit b k

pub alike_same : {id place w b : ℕ} → w ≡ b → b < 256 → Alike id place w b
alike_same e h = record { written = rw e h; bits = λ k l r. rw e }

-- w agrees with b in bit k, if that is read
abbrev agrees : (id place w b k : ℕ) → Bool
agrees id place w b k = beq (bit w k) (bit b k) || unread id place k

-- each byte b that fits agrees with w b in all its bits
abbrev all_agree : (id place : ℕ) → (w : ℕ → ℕ) → (fits : ℕ → Bool) → (b : ℕ) → Bool
all_agree id place w fits b = fits b && agree_below (agrees id place (w b) b) (λ k. true) 8

alike_tested : (id place : ℕ) (w : ℕ → ℕ) (fits : ℕ → Bool) → agree_below fits (all_agree id place w fits) 256 ≡ true → (b : ℕ) → b < 256 → fits b ≡ true → w b < 256 → Alike id place (w b) b
alike_tested id place w fits t b h fit below =
    let at_b = (and_parts (fits b) _ (sym (agree_below_at fits (all_agree id place w fits) 256 b t h) ∙ fit)).1 in
    record {
      written = below;
      bits = λ k l read. (booleans_Decides _ _).0 (rw (read, or-false) at (agree_below_at (agrees id place (w b) b) (λ k. true) 8 k at_b l));
    }

pub alike_1 : (id b : ℕ) → b < 256 → markers_1 b ≡ true → Alike id 1 (0xB0 + b % 16) b
alike_1 id b h marked = alike_tested id 1 (λ b. 0xB0 + b % 16) markers_1 refl b h marked (omega arith)

-- no bit of an MPE-FEC section's byte 4 is read
pub alike_4_check : (b : ℕ) → Alike (table_id_of Check) 4 0xFF b
alike_4_check b = record { written = lit< tt; bits = λ k h read. absurd (true≢false read) }

-- a datagram section's byte 5 is all read, and an MPE-FEC section's only in the bits that must be 1
pub alike_5_datagram : (b : ℕ) → b < 256 → markers_5 b ≡ true → scrambled_or_wrapped b ≡ false → Alike (table_id_of Datagram) 5 0xC1 b
alike_5_datagram b h marked plain =
    alike_tested (table_id_of Datagram) 5 (λ b. 0xC1) (λ b. markers_5 b && not (scrambled_or_wrapped b)) refl b h (rw (marked, plain)) (lit< tt)

pub alike_5_check : (b : ℕ) → b < 256 → markers_5 b ≡ true → Alike (table_id_of Check) 5 0xFF b
alike_5_check b h marked = alike_tested (table_id_of Check) 5 (λ b. 0xFF) markers_5 refl b h marked (lit< tt)

-- bytes that are alike, and the same in the bits that are not read, are the same
pub same_if_alike : (id place w b : ℕ) → Alike id place w b → b < 256 → ((k : ℕ) → k < 8 → unread id place k ≡ true → bit w k ≡ bit b k) → w ≡ b
same_if_alike id place w b alike h rest =
    same_byte w b alike.written h (λ k l. ⊎_elim (rest k l) (alike.bits k l) (cases_Bool (unread id place k)))

-- the bytes ws, written from a place on, are alike to those of the section s
pub record Alikes (id place : ℕ) (ws s : List ℕ) : Type 0 where
  pub each : (k : ℕ) → k < length ws → Alike id (place + k) (byte ws k) (byte s (place + k))

-- one more in front
first_and_rest : {id place w : ℕ} {ws s : List ℕ} → Alike id place w (byte s place) → Alikes id (suc place) ws s → (k : ℕ) → k < suc (length ws) → Alike id (place + k) (byte (w ∷ ws) k) (byte s (place + k))
first_and_rest one rest zero h = rw add-zero one
first_and_rest one rest (suc k) h = rw (add-suc, ← suc-add) (rest.each k (omega arith))

pub in_front : {id place w : ℕ} {ws s : List ℕ} → Alike id place w (byte s place) → Alikes id (suc place) ws s → Alikes id place (w ∷ ws) s
in_front one rest = record { each = first_and_rest one rest }
