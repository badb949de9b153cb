-- Where the first piece of a stream ends.
use Rattle.std.proofs.Common.{◌≡◌, ℕ, zero, suc, ◌+◌, ◌<◌, ◌≤◌, Bool, true, false, ◌⊎◌, List, [], ◌∷◌, ◌++◌, length, take, drop, get_or, sym, refl, ap, ◌∙◌, subst, inl, inr, ⊎_elim, append_assoc, append-nil, arith, length-append}
use mir.Val.{Fits}
use mir.Syntax.{w8}
use Rattle.std.proofs.lemmas.List.{get_or_append_left, get_or-take, length-take-le, take-append-drop, take_at, drop_at, take_all, drop_all}
use Rattle.std.proofs.lemmas.Bool.Decides.{nat_tests}
use Rattle.stream.specs.Cut.{length_told, size_of_first, first_piece, after_first, pieces, WholeSection, TooShort, Follows, TellsSize}

-- p is the first piece of a stream that goes on with t
abbrev pub First : List ℕ → List ℕ → Type 0
First p t = WholeSection p ⊎ (TooShort p × (t ≡ []))

-- three bytes tell the length, whatever follows
same_length : (p t : List ℕ) → 3 ≤ length p → length_told (p ++ t) ≡ length_told p
same_length p t h = rw (get_or_append_left p t 0 1 (omega arith), get_or_append_left p t 0 2 (omega arith))

short_size : (p : List ℕ) → TooShort p → size_of_first p ≡ length p
short_size p h = grind (arith, nat_tests)

first_is : (p t : List ℕ) → First p t → size_of_first (p ++ t) ≡ length p
first_is p t (inl w) =
    let e = same_length p t w.0 in
    let n = length-append p t in
    grind (arith, nat_tests)
first_is p t (inr r) = ap size_of_first (ap (λ (u : List ℕ). p ++ u) r.1 ∙ append-nil p) ∙ short_size p r.0

pieces_some : (k : ℕ) (s : List ℕ) → 0 < length s → pieces (suc k) s ≡ first_piece s ∷ pieces k (after_first s)
unfolding pieces
pieces_some k [] h = absurd (let z : 0 < 0 = h in omega arith)
pieces_some k (b ∷ s) h = refl

pub pieces_first : (k : ℕ) (p t : List ℕ) → 0 < length p → First p t → pieces (suc k) (p ++ t) ≡ p ∷ pieces k t
pieces_first k p t h f =
    let n = length-append p t in
    pieces_some k (p ++ t) (omega arith)
    ∙ ap (λ (m : ℕ). take m (p ++ t) ∷ pieces k (drop m (p ++ t))) (first_is p t f)
    ∙ rw (take_at p t (length p) refl, drop_at p t (length p) refl)

-- the bytes that a whole section at the front has
whole_front : (s : List ℕ) (n : ℕ) → 3 ≤ length s → n ≤ length s → n ≡ 3 + length_told s → WholeSection (take n s)
whole_front s n three le e =
    let long = length-take-le n s le in
    let b1 = get_or-take n s 1 0 (omega arith) in
    let b2 = get_or-take n s 2 0 (omega arith) in
    (omega arith, omega arith)

-- all of what is too short, where nothing follows
rest_front : (s t : List ℕ) (n : ℕ) → length s ≤ n → t ≡ [] → TooShort s → First (take n s) t
rest_front s t n all none h = inr (subst TooShort (sym (take_all n s all)) h, none)

-- a stream that is held as a whole tells the size of its first piece
pub tells_first : (s : List ℕ) → TellsSize s true (size_of_first s)
tells_first s = grind (arith, nat_tests)

pub first_some : (s : List ℕ) → 0 < length s → 0 < size_of_first s
first_some s h = grind (arith, nat_tests)

-- bytes 1 and 2 tell at most 4,095 bytes more
pub held_short : (held : List ℕ) → ((i : ℕ) → Fits w8 (get_or held i 0)) → TooShort held → length held < 4098
held_short held bytes (inl few) = omega arith
held_short held bytes (inr few) = let low = bytes 2 in omega arith

-- nothing follows once the stream has ended
after_end : (ended : Bool) (more : List ℕ) → ended ≡ true → Follows ended more → more ≡ []
after_end true more e f = f
after_end false more e f = absurd (cc e)

-- Where the bytes held tell the first piece's size, it lies within those held, whatever follows.
front_held : (held more : List ℕ) (ended : Bool) (n : ℕ) → TellsSize held ended n → Follows ended more → First (take n held) (drop n held ++ more)
front_held held more ended n told f =
    let le = told.0 in
    ⊎_elim (λ w. inl (whole_front held n w.0 le w.1))
    (λ r.
    let all : length held ≤ n = let e = r.1 in omega arith in
    rest_front held (drop n held ++ more) n all (ap (λ (u : List ℕ). u ++ more) (drop_all n held all) ∙ after_end ended more r.0 f) r.2)
    told.1

pub front_cut : (s : List ℕ) → First (first_piece s) (after_first s)
front_cut s =
    subst (λ (t : List ℕ). First (first_piece s) t) (append-nil (after_first s)) (front_held s [] true (size_of_first s) (tells_first s) refl)

pub front_some : (s : List ℕ) → 0 < length s → 0 < length (first_piece s)
front_some s h =
    let long = length-take-le (size_of_first s) s (tells_first s).0 in
    let some = first_some s h in
    omega arith

pub piece_held : (k j n : ℕ) (held more : List ℕ) (ended : Bool) → j + 1 ≡ k → 0 < n → TellsSize held ended n → Follows ended more → pieces k (held ++ more) ≡ take n held ∷ pieces j (drop n held ++ more)
piece_held k j n held more ended e some told f =
    let long = length-take-le n held told.0 in
    let parts : held ++ more ≡ take n held ++ (drop n held ++ more) = ap (λ (u : List ℕ). u ++ more) (sym (take-append-drop n held)) ∙ append_assoc (take n held) (drop n held) more in
    let count : k ≡ suc j = omega arith in
    ap (λ (m : ℕ). pieces m (held ++ more)) count ∙ ap (pieces (suc j)) parts
    ∙ pieces_first j (take n held) (drop n held ++ more) (omega arith) (front_held held more ended n told f)

pub none_left : (k : ℕ) (s : List ℕ) → k ≡ 0 → pieces k s ≡ []
unfolding pieces
none_left k s e = ap (λ (m : ℕ). pieces m s) e

of_nothing : (k : ℕ) → pieces k [] ≡ []
unfolding pieces
of_nothing zero = refl
of_nothing (suc k) = refl

pub none_held : (k : ℕ) (s : List ℕ) → s ≡ [] → pieces k s ≡ []
none_held k s e = ap (pieces k) e ∙ of_nothing k

pub none_follows : (k : ℕ) (held more : List ℕ) (ended : Bool) → (held ≡ []) × (ended ≡ true) → Follows ended more → pieces k (held ++ more) ≡ []
none_follows k held more ended none f =
    none_held k (held ++ more) (ap (λ (u : List ℕ). u ++ more) none.0 ∙ after_end ended more none.1 f)

-- what one call of `next` tells
pub ruleset cuts = (held_short, piece_held, none_left, none_follows)
