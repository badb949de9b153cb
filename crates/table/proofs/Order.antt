-- Two lists of rules, one after the other, as the code comes to them.
use Rattle.std.proofs.Common.{◌≡◌, suc, List, [], ◌∷◌, ◌++◌, Some, None, Ok, Err, Result, refl, sym, ◌∙◌}
use Rattle.refusal.specs.declared.Refusal.{Refusal}
use Rattle.refusal.specs.Rules.{Verdict, first, Refused, Passes, Answers}
use Rattle.refusal.proofs.Order.{or_else_none, first_append, first_passes, first_refuses, refused_front, refused_first}

pub passes_first : (rules : List Verdict) → Passes rules → first rules ≡ None
passes_first [] passes = refl
passes_first (rule ∷ rules) passes = rw (passes.none 0) (passes_first rules (record { none = λ k. passes.none (suc k) }))

-- refused by the first list
pub refused_before : (front back : List Verdict) {e : Refusal} → Refused front e → Refused (front ++ back) e
refused_before front back {e} refused = refused_front front back (refused_first front e refused)

-- the first list passes, and so is left what the second says
after : (front back : List Verdict) → Passes front → first (front ++ back) ≡ first back
after front back passes = first_append front back ∙ rw (passes_first front passes)

pub refused_after : (front back : List Verdict) {e : Refusal} → Passes front → first back ≡ Some e → Refused (front ++ back) e
refused_after front back {e} passes some = first_refuses (front ++ back) e (after front back passes ∙ some)

pub passes_both : (front back : List Verdict) → Passes front → first back ≡ None → Passes (front ++ back)
passes_both front back passes none = first_passes (front ++ back) (after front back passes ∙ none)

pub rest_passes : (rule : Verdict) (rules : List Verdict) → Passes (rule ∷ rules) → Passes rules
rest_passes rule rules passes = record { none = λ k. passes.none (suc k) }

pub both_pass : (front back : List Verdict) → Passes front → Passes back → Passes (front ++ back)
both_pass front back front_is back_is = passes_both front back front_is (passes_first back back_is)

passes_first_of : (front back : List Verdict) → Passes (front ++ back) → (first front ≡ None) × (first back ≡ None)
passes_first_of front back passes = or_else_none (first front) (first back) (sym (first_append front back) ∙ passes_first (front ++ back) passes)

-- both lists pass, where they do together
pub front_passes : (front back : List Verdict) → Passes (front ++ back) → Passes front
front_passes front back passes = first_passes front (passes_first_of front back passes).0

pub back_passes : (front back : List Verdict) → Passes (front ++ back) → Passes back
back_passes front back passes = first_passes back (passes_first_of front back passes).1

-- one rule in front that does not fit
pub answers_behind : {T : Type 0} (rule : Verdict) (rules : List Verdict) (Done : T → Type 0) (r : Result T Refusal) → rule ≡ None → Answers rules Done r → Answers (rule ∷ rules) Done r
answers_behind rule rules Done (Ok x) none (passes, done) = (first_passes (rule ∷ rules) (rw none (passes_first rules passes)), done)
answers_behind rule rules Done (Err e) none refused = first_refuses (rule ∷ rules) e (rw none (refused_first rules e refused))

-- refused by a list of which all but its first rule pass, and so by that
pub refused_by_first : (rule : Verdict) (rules : List Verdict) (e : Refusal) → Refused (rule ∷ rules) e → Passes rules → rule ≡ Some e
refused_by_first (Some f) rules e refused passes = refused_first (Some f ∷ rules) e refused
refused_by_first None rules e refused passes =
    let none = passes_first rules passes in let some = refused_first (None ∷ rules) e refused in cc

-- refused by the second of two rules
pub refused_second : (one other : Verdict) {e : Refusal} → one ≡ None → other ≡ Some e → Refused (one ∷ other ∷ []) e
refused_second one other {e} none some = first_refuses (one ∷ other ∷ []) e (rw (none, some) refl)
