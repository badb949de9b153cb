-- How refusals are stated: a rule for each number, an ordered list of rules for each call, and the first that fits counts.
use Rattle.std.specs.Prelude.{◌≡◌, ℕ, ◌<◌, Bool, true, false, ◌⊎◌, List, [], ◌∷◌, Some, None, Ok, Err, Option, Result, slice_index_or}
use Rattle.refusal.specs.declared.Refusal.{Refusal}

-- what a rule says of a call: the refusal that it gives, with its place, or nothing where it does not fit
abbrev pub Verdict : Type 0
Verdict = Option Refusal

-- a rule with one cause
abbrev pub when : Bool → Refusal → Verdict
when true e = Some e
when false e = None

-- a rule with several causes, of which the first counts
abbrev pub or_else : Verdict → Verdict → Verdict
or_else (Some e) later = Some e
or_else None later = later

-- several rules as one
abbrev pub first : List Verdict → Verdict
first [] = None
first (rule ∷ rules) = or_else rule (first rules)

-- the call is refused with e: a rule of the list gives e, and none before it fits
pub record Refused (rules : List Verdict) (e : Refusal) : Type 0 where
  pub at : ℕ
  pub gives : slice_index_or rules at None ≡ Some e
  pub before : (k : ℕ) → k < at → slice_index_or rules k None ≡ None

-- no rule of the list fits
pub record Passes (rules : List Verdict) : Type 0 where
  pub none : (k : ℕ) → slice_index_or rules k None ≡ None

-- a call's answer: done, as `Done` says, where no rule fits; otherwise refused by the first that does
abbrev pub Answers : {T : Type 0} → List Verdict → (T → Type 0) → Result T Refusal → Type 0
Answers rules Done (Ok x) = Passes rules × Done x
Answers rules Done (Err e) = Refused rules e

-- the same for a call with a single rule
abbrev pub Obeys : {T : Type 0} → Verdict → (T → Type 0) → Result T Refusal → Type 0
Obeys rule Done (Ok x) = (rule ≡ None) × Done x
Obeys rule Done (Err e) = rule ≡ Some e

-- a list of rules settles a call: it passes or is refused, never both, and never with two refusals
pub record Settles (rules : List Verdict) : Type 0 where
  pub one : Passes rules ⊎ ((e : Refusal) × Refused rules e)
  pub not_both : (e : Refusal) → Refused rules e → Passes rules → ⊥
  pub no_other : (e f : Refusal) → Refused rules e → Refused rules f → e ≡ f
