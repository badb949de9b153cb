-- The order of rules: a list of rules answers as `first` of it does, and so settles a call.
use Rattle.std.proofs.Common.{◌≡◌, ℕ, zero, suc, ◌<◌, Bool, true, false, not, ◌⊎◌, List, [], ◌∷◌, ◌++◌, get_or, Some, None, Ok, Err, Result, refl, ◌∙◌, inl, inr, arith}
use Rattle.refusal.specs.declared.Refusal.{Refusal}
use Rattle.refusal.specs.Rules.{Verdict, when, or_else, first, Refused, Passes, Answers, Obeys, Settles}

-- a rule that does not fit, taken apart
pub when_none : (fits : Bool) (e : Refusal) → when fits e ≡ None → fits ≡ false
when_none true e none = cc
when_none false e none = refl

pub when_not_none : (holds : Bool) (e : Refusal) → when (not holds) e ≡ None → holds ≡ true
when_not_none true e none = refl
when_not_none false e none = cc

pub or_else_none : (v later : Verdict) → or_else v later ≡ None → (v ≡ None) × (later ≡ None)
or_else_none (Some e) later none = (none, cc)
or_else_none None later none = (refl, none)

-- the rules in front, then those behind
pub first_append : (front back : List Verdict) → first (front ++ back) ≡ or_else (first front) (first back)
first_append [] back = refl
first_append (Some e ∷ front) back = refl
first_append (None ∷ front) back = first_append front back

-- no rule fits
none_at : (rules : List Verdict) → first rules ≡ None → (k : ℕ) → get_or rules k None ≡ None
none_at [] none k = refl
none_at (Some e ∷ rules) none k = cc
none_at (None ∷ rules) none zero = refl
none_at (None ∷ rules) none (suc k) = none_at rules none k

pub first_passes : (rules : List Verdict) → first rules ≡ None → Passes rules
first_passes rules none = record { none = none_at rules none }

-- a rule fits, and none before it
none_before : (rules : List Verdict) (at : ℕ) → ((k : ℕ) → k < at → get_or rules k None ≡ None) → (k : ℕ) → k < suc at → get_or (None ∷ rules) k None ≡ None
none_before rules at before zero h = refl
none_before rules at before (suc k) h = before k (omega arith)

pub first_refuses : (rules : List Verdict) (e : Refusal) → first rules ≡ Some e → Refused rules e
first_refuses [] e some = cc
first_refuses (Some f ∷ rules) e some = record { at = 0; gives = some; before = λ k h. absurd (omega arith) }
first_refuses (None ∷ rules) e some =
    let later = first_refuses rules e some in
    record { at = suc later.at; gives = later.gives; before = none_before rules later.at later.before }

-- a refusal by the rules in front
pub refused_front : (front back : List Verdict) {e : Refusal} → first front ≡ Some e → Refused (front ++ back) e
refused_front front back {e} some = first_refuses _ e (first_append front back ∙ rw some)

-- the first rule that fits is the one that refuses
refused_at : (rules : List Verdict) (e : Refusal) (at : ℕ) → get_or rules at None ≡ Some e → ((k : ℕ) → k < at → get_or rules k None ≡ None) → first rules ≡ Some e
refused_at [] e at gives before = gives
refused_at (rule ∷ rules) e zero gives before = rw gives
refused_at (rule ∷ rules) e (suc at) gives before =
    rw (before 0 (omega arith)) (refused_at rules e at gives (λ k h. before (suc k) (omega arith)))

pub refused_first : (rules : List Verdict) (e : Refusal) → Refused rules e → first rules ≡ Some e
refused_first rules e refused = refused_at rules e refused.at refused.gives refused.before

-- several rules as one give the answer of their list
pub answers_first : {T : Type 0} (rules : List Verdict) (Done : T → Type 0) (r : Result T Refusal) → Obeys (first rules) Done r → Answers rules Done r
answers_first rules Done (Ok x) (none, done) = (first_passes rules none, done)
answers_first rules Done (Err e) some = first_refuses rules e some

settles_one : (rules : List Verdict) (v : Verdict) → first rules ≡ v → Passes rules ⊎ ((e : Refusal) × Refused rules e)
settles_one rules None none = inl (first_passes rules none)
settles_one rules (Some e) some = inr (e, first_refuses rules e some)

pub settles : (rules : List Verdict) → Settles rules
settles rules = record {
  one = settles_one rules (first rules) refl;
  not_both = λ e r p. let none = p.none r.at in let gives = r.gives in cc;
  no_other = λ e f r q. let is_e = refused_first rules e r in let is_f = refused_first rules f q in cc;
}
