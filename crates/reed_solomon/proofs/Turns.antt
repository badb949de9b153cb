-- The turns of the loops over the missing bytes.
use Rattle.std.proofs.Common.{◌≡◌, ℕ, ◌+◌, ◌-◌, ◌<◌, ◌≤◌, Bool, true, false, not, List, [], ◌∷◌, ◌++◌, length, set, sym, ap, ◌∙◌, subst, arith, length-append, get_or-set_other, get_or-set_same, below_more}
use Rattle.std.proofs.lemmas.List.{get_or_append_left}
use Rattle.std.proofs.Math.Seq.{get_or-append_seam}
use Rattle.std.proofs.lemmas.Bool.{both_ways}
use Rattle.octets.specs.Octets.{byte}
use Rattle.gf256.specs.Products.{power}
use Rattle.rowcode.specs.Rows.{is_known}
use Rattle.reed_solomon.specs.Solving.{Inserted}
use Rattle.rs_code.specs.Counts.{count, missing, missing_count}
use Rattle.reed_solomon.proofs.Counting.{count_more, count_past, count_below}

-- the first i places done, u values are put in
pub record InsertedTo (known : List Bool) (old row values : List ℕ) (i u : ℕ) : Type 0 where
  pub count_is : u ≡ count (missing known) i
  pub filled : (k : ℕ) → k < i → missing known k ≡ true → byte row k ≡ byte values (count (missing known) k)
  pub kept : (k : ℕ) → k < i → missing known k ≡ false → byte row k ≡ byte old k
  pub later : (k : ℕ) → i ≤ k → byte row k ≡ byte old k

pub inserted : (known : List Bool) (old row values : List ℕ) (i u : ℕ) (row' : List ℕ) (u' : ℕ) → i < length row → is_known known i ≡ false
    → row' ≡ set row i (byte values u) → u' ≡ u + 1 → InsertedTo known old row values i u → InsertedTo known old row' values (i + 1) u'
inserted known old row values i u row' u' l b er eu h =
    subst (λ r. InsertedTo known old r values (i + 1) u') (sym er) (record {
      count_is = eu ∙ ap (λ (x : ℕ). x + 1) h.count_is ∙ sym (count_more known i b);
      filled = below_more (λ k. missing known k ≡ true → byte (set row i w) k ≡ byte values (count (missing known) k)) i
          (λ k p m. get_or-set_other row i k w 0 (λ e. absurd (omega arith)) ∙ h.filled k p m)
          (λ m. get_or-set_same row i w 0 l ∙ ap (byte values) h.count_is);
      kept = below_more (λ k. missing known k ≡ false → byte (set row i w) k ≡ byte old k) i
          (λ k p m. get_or-set_other row i k w 0 (λ e. absurd (omega arith)) ∙ h.kept k p m)
          (λ m. absurd (both_ways (missing known i) m (ap not b)));
      later = λ k p. get_or-set_other row i k w 0 (λ e. absurd (omega arith)) ∙ h.later k (omega arith);
    })
  where
    w : ℕ
    w = byte values u

pub passed : (known : List Bool) (old row values : List ℕ) (i u : ℕ) (row' : List ℕ) (u' : ℕ) → is_known known i ≡ true
    → row' ≡ row → u' ≡ u → InsertedTo known old row values i u → InsertedTo known old row' values (i + 1) u'
passed known old row values i u row' u' b er eu h =
    subst (λ r. InsertedTo known old r values (i + 1) u') (sym er) (record {
      count_is = eu ∙ h.count_is ∙ sym (count_past known i b);
      filled = below_more (λ k. missing known k ≡ true → byte row k ≡ byte values (count (missing known) k)) i
          h.filled (λ m. absurd (both_ways (missing known i) (ap not b) m));
      kept = below_more (λ k. missing known k ≡ false → byte row k ≡ byte old k) i h.kept (λ m. h.later i (omega arith));
      later = λ k p. h.later k (omega arith);
    })

-- the first i places done, these locators are found
pub record FoundTo (known : List Bool) (locators : List ℕ) (i : ℕ) : Type 0 where
  pub few : length locators ≤ 64
  pub count_is : length locators ≡ count (missing known) i
  pub at : (k : ℕ) → k < i → missing known k ≡ true → byte locators (count (missing known) k) ≡ power 2 (254 - k)

pub found : (known : List Bool) (locators : List ℕ) (i w : ℕ) (bases' : List ℕ) → length locators < 64 → is_known known i ≡ false
    → w ≡ power 2 (254 - i) → bases' ≡ locators ++ w ∷ [] → FoundTo known locators i → FoundTo known bases' (i + 1)
found known locators i w bases' room b ew eb h =
    subst (λ r. FoundTo known r (i + 1)) (sym eb) (record {
      few = omega (arith, length-append locators (w ∷ []), room);
      count_is = length-append locators (w ∷ []) ∙ ap (λ (v : ℕ). v + 1) h.count_is ∙ sym (count_more known i b);
      at = below_more (λ k. missing known k ≡ true → byte (locators ++ w ∷ []) (count (missing known) k) ≡ power 2 (254 - k)) i
          (λ k p m. get_or_append_left locators (w ∷ []) 0 (count (missing known) k) (omega (arith, h.count_is, count_below known k i m p)) ∙ h.at k p m)
          (λ m. ap (byte (locators ++ w ∷ [])) (sym h.count_is) ∙ get_or-append_seam locators w [] 0 ∙ ew);
    })

pub skipped : (known : List Bool) (locators : List ℕ) (i : ℕ) (bases' : List ℕ) → is_known known i ≡ true
    → bases' ≡ locators → FoundTo known locators i → FoundTo known bases' (i + 1)
skipped known locators i bases' b eb h =
    subst (λ r. FoundTo known r (i + 1)) (sym eb) (record {
      few = h.few;
      count_is = h.count_is ∙ sym (count_past known i b);
      at = below_more (λ k. missing known k ≡ true → byte locators (count (missing known) k) ≡ power 2 (254 - k)) i
          h.at (λ m. absurd (both_ways (missing known i) (ap not b) m));
    })

-- where values stand, what follows them does not matter
pub inserted_front : (known : List Bool) (row after values rest : List ℕ) → missing_count known ≤ length values
    → Inserted known row after (values ++ rest) → Inserted known row after values
inserted_front known row after values rest enough h = record {
  kept = h.kept;
  filled = λ k l m. h.filled k l m ∙ get_or_append_left values rest 0 (count (missing known) k) (omega (arith, count_below known k 255 m l, enough));
}
