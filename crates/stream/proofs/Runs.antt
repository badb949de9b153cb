-- Calls of `next`, one after another, give the pieces of the stream.
use Rattle.std.proofs.Common.{◌≡◌, ℕ, zero, suc, true, List, [], ◌∷◌, ◌++◌, take, drop, sym, refl, ap, ◌∙◌, subst, inl, inr, append-nil, arith}
use Rattle.stream.specs.Cut.{size_of_first, after_first, pieces, Run, gives, waits, ends, RunLaw}
use Rattle.stream.proofs.Fronts.{tells_first, first_some, piece_held, none_left, none_follows}

gives_pieces : (k : ℕ) (s : List ℕ) (ps : List (List ℕ)) → Run k s ps → ps ≡ pieces k s
gives_pieces _ _ _ (gives k j n held more ended rest follows cuts run) =
    ap (λ (qs : List (List ℕ)). take n held ∷ qs) (gives_pieces j _ rest run) ∙ sym (cuts.3 more follows)
gives_pieces _ _ _ (waits k j held more ended ps follows cuts run) =
    gives_pieces j (held ++ more) ps run ∙ ap (λ (i : ℕ). pieces i (held ++ more)) cuts.0
gives_pieces _ _ _ (ends k j held more ended follows cuts) = sym (cuts.2 more follows)

whole : (k : ℕ) (s : List ℕ) (ps : List (List ℕ)) → Run k (s ++ []) ps → Run k s ps
whole k s ps run = subst (λ (t : List ℕ). Run k t ps) (append-nil s) run

-- all of the stream is held at each call
can_be_run : (k : ℕ) (s : List ℕ) → Run k s (pieces k s)
unfolding pieces
can_be_run zero s = whole 0 s [] (ends 0 0 s [] true refl (refl, inl refl, λ more f. none_left 0 (s ++ more) refl))
can_be_run (suc k) [] = ends (suc k) (suc k) [] [] true refl (refl, inr (refl, refl), λ more f. none_follows (suc k) [] more true (refl, refl) f)
can_be_run (suc k) (b ∷ s) =
    let held : List ℕ = b ∷ s in
    let n : ℕ = size_of_first held in
    let told = tells_first held in
    let some = first_some held (omega arith) in
    let rest : Run k (drop n held ++ []) (pieces k (after_first held)) = subst (λ (t : List ℕ). Run k t (pieces k (after_first held))) (sym (append-nil (drop n held))) (can_be_run k (after_first held)) in
    whole (suc k) held _ (gives (suc k) k n held [] true (pieces k (after_first held)) refl (some, told.0, omega arith, λ more f. piece_held (suc k) k n held more true (omega arith) some told f) rest)

pub run_law : RunLaw
run_law = record { gives_pieces = gives_pieces; can_be_run = can_be_run }
