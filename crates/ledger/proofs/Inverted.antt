-- A ledger read backwards, by its latest call: what it was before, and how the call changed it.
use Rattle.std.proofs.Common.{◌≡◌, ℕ, List, [], ◌∷◌, Option, Some, sym, ap, ◌∙◌, subst}
use Rattle.std.proofs.lemmas.Option.{same_Some}
use Rattle.refusal.specs.declared.Refusal.{Refusal}
use Rattle.refusal.specs.Rules.{Refused, Passes}
use Rattle.refusal.proofs.Order.{settles}
use Rattle.frame.specs.Fields.{fields_of}
use Rattle.table.specs.Tables.{Table, blank}
use Rattle.table.specs.Rules.{start_rules, take_rules}
use Rattle.table.specs.Taking.{Entered}
use Rattle.table.specs.Closing.{close_rules}
use Rattle.ledger.specs.Calls.{Call, start, take, close, «open», next}
use Rattle.ledger.specs.Ledgers.{Ledger, anew, kept_at_start, enters, kept_at_take, settled, kept_at_close, kept_at_open, kept_at_next, Settled}

module _ (m : ℕ) (codeword : List ℕ → Type 0) (sizes : ℕ → Option ℕ) where
  -- the ledger of these calls is this table, if there is one
  abbrev pub IsLedger : List Call → Table → Type 0
  IsLedger calls own = (t : Table) → Ledger m codeword sizes calls t → t ≡ own

  pub none_before : (t : Table) → Ledger m codeword sizes [] t → ⊥
  none_before t l = elim l [ ]

  pub after_start : (calls : List Call) (R code cells marks : ℕ) (t : Table) → Ledger m codeword sizes (start code cells marks ∷ calls) t
      → Passes (start_rules sizes m code cells marks) → sizes code ≡ Some R → t ≡ blank R
  after_start _ R _ _ _ _ (anew calls S code cells marks _ size) passes is = ap blank (same_Some S R (sym size ∙ is))
  after_start _ R _ _ _ _ (kept_at_start calls t code cells marks e before refused) passes is = absurd ((settles _).not_both e refused passes)

  pub after_refused_start : (calls : List Call) (code cells marks : ℕ) (t : Table) (e : Refusal) → Ledger m codeword sizes (start code cells marks ∷ calls) t
      → Refused (start_rules sizes m code cells marks) e → Ledger m codeword sizes calls t
  after_refused_start _ _ _ _ _ e (anew calls R code cells marks passes size) refused = absurd ((settles _).not_both e refused passes)
  after_refused_start _ _ _ _ _ e (kept_at_start calls t code cells marks _ before _) refused = before

  -- take and close, where the ledger before is known
  pub after_take : (calls : List Call) (section : List ℕ) (arrival cells marks : ℕ) (after own : Table) → Ledger m codeword sizes (take section arrival cells marks ∷ calls) after
      → IsLedger calls own → Passes (take_rules m own section cells marks) → Entered own (fields_of section) after
  after_take _ _ _ _ _ _ own (enters calls t after section arrival cells marks before _ entered) is passes =
      subst (λ u. Entered u (fields_of section) after) (is t before) entered
  after_take _ _ _ _ _ _ own (kept_at_take calls t section arrival cells marks e before refused) is passes =
      absurd ((settles _).not_both e (subst (λ u. Refused (take_rules m u section cells marks) e) (is t before) refused) passes)

  pub after_refused_take : (calls : List Call) (section : List ℕ) (arrival cells marks : ℕ) (after own : Table) (e : Refusal) → Ledger m codeword sizes (take section arrival cells marks ∷ calls) after
      → IsLedger calls own → Refused (take_rules m own section cells marks) e → Ledger m codeword sizes calls after
  after_refused_take _ _ _ _ _ _ own e (enters calls t after section arrival cells marks before passes _) is refused =
      absurd ((settles _).not_both e refused (subst (λ u. Passes (take_rules m u section cells marks)) (is t before) passes))
  after_refused_take _ _ _ _ _ _ own e (kept_at_take calls t section arrival cells marks _ before _) is refused = before

  pub after_close : (calls : List Call) (cells marks scratch names : ℕ) (after own : Table) → Ledger m codeword sizes (close cells marks scratch names ∷ calls) after
      → IsLedger calls own → Passes (close_rules m own.rows cells marks scratch names) → Settled m codeword own after
  after_close _ _ _ _ _ _ own (settled calls t after cells marks scratch names before _ closed) is passes =
      subst (λ u. Settled m codeword u after) (is t before) closed
  after_close _ _ _ _ _ _ own (kept_at_close calls t cells marks scratch names e before refused) is passes =
      absurd ((settles _).not_both e (subst (λ (u : Table). Refused (close_rules m u.rows cells marks scratch names) e) (is t before) refused) passes)

  pub after_refused_close : (calls : List Call) (cells marks scratch names : ℕ) (after own : Table) (e : Refusal) → Ledger m codeword sizes (close cells marks scratch names ∷ calls) after
      → IsLedger calls own → Refused (close_rules m own.rows cells marks scratch names) e → Ledger m codeword sizes calls after
  after_refused_close _ _ _ _ _ _ own e (settled calls t after cells marks scratch names before passes _) is refused =
      absurd ((settles _).not_both e refused (subst (λ (u : Table). Passes (close_rules m u.rows cells marks scratch names)) (is t before) passes))
  after_refused_close _ _ _ _ _ _ own e (kept_at_close calls t cells marks scratch names _ before _) is refused = before

  pub after_open : (calls : List Call) (cells marks : ℕ) (t : Table) → Ledger m codeword sizes («open» cells marks ∷ calls) t → Ledger m codeword sizes calls t
  after_open _ _ _ _ (kept_at_open calls t cells marks before) = before

  pub after_next : (calls : List Call) (read_out : ℕ) (t : Table) → Ledger m codeword sizes (next read_out ∷ calls) t → Ledger m codeword sizes calls t
  after_next _ _ _ (kept_at_next calls t read_out before) = before
