-- The pieces of a stream are what it is cut up into, and nothing else is.
use Rattle.std.proofs.Common.{◌≡◌, ℕ, zero, suc, ◌+◌, ◌<◌, ◌⊎◌, List, [], ◌∷◌, ◌++◌, length, get_or, sym, refl, ap, ◌∙◌, subst, inl, inr, ⊎_elim, append_assoc, arith, length-append}
use Rattle.std.specs.List.{flat_map}
use Rattle.std.proofs.lemmas.List.{take-append-drop, nil_from_length}
use Rattle.stream.specs.Cut.{first_piece, after_first, pieces, WholeSection, TooShort, CutUp, PiecesLaw}
use Rattle.stream.proofs.Fronts.{First, front_cut, front_some, pieces_first, none_held}

-- what is cut up into no pieces
none_cut : (k : ℕ) (s : List ℕ) → (k ≡ 0) ⊎ (s ≡ []) → CutUp k s []
none_cut k s h = record {
  rest = s;
  joins = refl;
  bounded = omega arith;
  used_up = λ ne. ⊎_elim (λ e. absurd (ne (sym e))) (λ e. e) h;
  some = λ i l. absurd (let z : i < 0 = l in omega arith);
  each = λ i l. absurd (let z : i < 0 = l in omega arith);
}

-- nothing is cut up into no pieces, and leaves nothing
nothing : (k : ℕ) (t : List ℕ) (ps : List (List ℕ)) (c : CutUp k t ps) → t ≡ [] → (length ps ≡ 0) × (c.rest ≡ [])
nothing k t [] c e = (refl, c.joins ∙ e)
nothing k t (p ∷ ps) c e =
    let some = c.some 0 (omega arith) in
    let whole = ap length (c.joins ∙ e) in
    let outer = length-append (p ++ flat_map (λ q. q) ps) c.rest in
    let inner = length-append p (flat_map (λ q. q) ps) in
    absurd (omega arith)

-- one piece more, before the others
some_more : (p : List ℕ) (ps : List (List ℕ)) → 0 < length p → ((i : ℕ) → i < length ps → 0 < length (get_or ps i [])) → (i : ℕ) → i < length (p ∷ ps) → 0 < length (get_or (p ∷ ps) i [])
some_more p ps h hs zero l = h
some_more p ps h hs (suc i) l = hs i (omega arith)

each_more : (k : ℕ) (p t : List ℕ) (ps : List (List ℕ)) → First p t → (c : CutUp k t ps) → (i : ℕ) → i < length (p ∷ ps) → WholeSection (get_or (p ∷ ps) i []) ⊎ (TooShort (get_or (p ∷ ps) i []) × (i + 1 ≡ length (p ∷ ps)) × (c.rest ≡ []))
each_more k p t ps (inl w) c zero l = inl w
each_more k p t ps (inr s) c zero l = let n = nothing k t ps c s.1 in inr (s.0, omega arith, n.1)
each_more k p t ps f c (suc i) l = ⊎_elim inl (λ s. inr (s.0, (let e = s.1 in omega arith), s.2)) (c.each i (omega arith))

one_more : (k : ℕ) (p t : List ℕ) (ps : List (List ℕ)) → 0 < length p → First p t → CutUp k t ps → CutUp (suc k) (p ++ t) (p ∷ ps)
one_more k p t ps h f c = record {
  rest = c.rest;
  joins = append_assoc p (flat_map (λ q. q) ps) c.rest ∙ ap (λ (u : List ℕ). p ++ u) c.joins;
  bounded = let b = c.bounded in omega arith;
  used_up = λ ne. c.used_up (λ e. ne (ap suc e));
  some = some_more p ps h c.some;
  each = each_more k p t ps f c;
}

-- the first piece taken away
one_less : (k : ℕ) (s p : List ℕ) (ps : List (List ℕ)) (c : CutUp (suc k) s (p ∷ ps)) → CutUp k (flat_map (λ q. q) ps ++ c.rest) ps
one_less k s p ps c = record {
  rest = c.rest;
  joins = refl;
  bounded = let b = c.bounded in omega arith;
  used_up = λ ne. c.used_up (λ e. ne (omega arith));
  some = λ i l. c.some (suc i) (omega arith);
  each = λ i l. ⊎_elim inl (λ s. inr (s.0, (let e = s.1 in omega arith), s.2)) (c.each (suc i) (omega arith));
}

is_first : (k : ℕ) (s p : List ℕ) (ps : List (List ℕ)) (c : CutUp (suc k) s (p ∷ ps)) → First p (flat_map (λ q. q) ps ++ c.rest)
is_first k s p ps c =
    ⊎_elim inl
    (λ r.
    let last = r.1 in
    let none : ps ≡ [] = nil_from_length ps (omega arith) in
    inr (r.0, ap (λ (qs : List (List ℕ)). flat_map (λ q. q) qs ++ c.rest) none ∙ r.2))
    (c.each 0 (omega arith))

cut_up : (k : ℕ) (s : List ℕ) → CutUp k s (pieces k s)
unfolding pieces
cut_up zero s = none_cut 0 s (inl refl)
cut_up (suc k) [] = none_cut (suc k) [] (inr refl)
cut_up (suc k) (b ∷ s) =
    let x = b ∷ s in
    subst (λ (u : List ℕ). CutUp (suc k) u (pieces (suc k) x)) (take-append-drop _ x)
    (one_more k (first_piece x) (after_first x) _ (front_some x (omega arith)) (front_cut x) (cut_up k (after_first x)))

only : (k : ℕ) (s : List ℕ) (ps : List (List ℕ)) → CutUp k s ps → ps ≡ pieces k s
unfolding pieces
only zero s [] c = refl
only zero s (p ∷ ps) c = absurd (let b = c.bounded in omega arith)
only (suc k) s [] c = sym (none_held (suc k) s (sym c.joins ∙ c.used_up (λ e. let z : 0 ≡ suc k = e in omega arith)))
only (suc k) s (p ∷ ps) c =
    let t = flat_map (λ q. q) ps ++ c.rest in
    ap (λ (qs : List (List ℕ)). p ∷ qs) (only k t ps (one_less k s p ps c))
    ∙ sym (pieces_first k p t (c.some 0 (omega arith)) (is_first k s p ps c))
    ∙ ap (pieces (suc k)) (sym (append_assoc p (flat_map (λ q. q) ps) c.rest) ∙ c.joins)

pub pieces_law : PiecesLaw
pieces_law k s = (cut_up k s, only k s)
