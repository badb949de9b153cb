-- How a stream of sections, laid back to back, is cut into pieces.
use Rattle.std.specs.Prelude.{◌≡◌, ℕ, zero, suc, ◌+◌, ◌<◌, ◌≤◌, Bool, true, false, cond, ◌&&◌, ◌⊎◌, List, [], ◌∷◌, ◌++◌, length, take, drop, ◌≢◌, nat_le, slice_index_or}
use Rattle.std.specs.List.{flat_map}
use Rattle.octets.specs.Octets.{byte, section_length}
use Rattle.stream.specs.declared.cutting.Cut.{Cut}
use Rattle.stream.specs.declared.cutting.Cut.TheVariants.{Piece, More, End}

-- how many bytes follow the first three, as bytes 1 and 2 tell it
abbrev pub length_told : List ℕ → ℕ
length_told s = section_length (byte s 1) (byte s 2)

-- the stream begins with a whole section
abbrev pub is_cut : List ℕ → Bool
is_cut s = nat_le 3 (length s) && nat_le (3 + length_told s) (length s)

-- how many bytes the first piece has: those of the section, or all that is left
abbrev pub size_of_first : List ℕ → ℕ
size_of_first s = cond (is_cut s) (3 + length_told s) (length s)

-- the first piece, and the stream after it
abbrev pub first_piece : List ℕ → List ℕ
first_piece s = take (size_of_first s) s

abbrev pub after_first : List ℕ → List ℕ
after_first s = drop (size_of_first s) s

-- the pieces of a stream, at most k of them
unfoldable pub pieces : ℕ → List ℕ → List (List ℕ)
pieces zero s = []
pieces (suc k) [] = []
pieces (suc k) (b ∷ s) = first_piece (b ∷ s) ∷ pieces k (after_first (b ∷ s))

-- just as many bytes as a section of the length that it says
abbrev pub WholeSection : List ℕ → Type 0
WholeSection p = (3 ≤ length p) × (length p ≡ 3 + length_told p)

-- too few bytes to tell a section's length, or for a section of that length
abbrev pub TooShort : List ℕ → Type 0
TooShort p = (length p < 3) ⊎ (length p < 3 + length_told p)

-- what may follow the bytes held: nothing once the stream has ended
abbrev pub Follows : Bool → List ℕ → Type 0
Follows true more = more ≡ []
Follows false more = Unit {0}

-- the bytes held tell the size of the first piece: a whole section, or all that is left of a stream that has ended
abbrev pub TellsSize : (held : List ℕ) (ended : Bool) (size : ℕ) → Type 0
TellsSize held ended size =
    (size ≤ length held)
    × (((3 ≤ length held) × (size ≡ 3 + length_told held)) ⊎ ((ended ≡ true) × (size ≡ length held) × TooShort held))

-- What is told of the bytes held, with k pieces left to be cut before and j after.
abbrev pub Cuts : (held : List ℕ) (ended : Bool) (k j : ℕ) → Cut → Type 0
-- the first n bytes held are the first piece, whatever follows, and one piece fewer is left to be cut
Cuts held ended k j (Piece n) =
    (0 < n) × (n ≤ length held) × (j + 1 ≡ k)
    × ((more : List ℕ) → Follows ended more → pieces k (held ++ more) ≡ take n held ∷ pieces j (drop n held ++ more))
-- a piece may still be cut, the stream may go on, and too few bytes are held
Cuts held ended k j More = (j ≡ k) × (0 < k) × (ended ≡ false) × TooShort held
-- there is no piece, whatever follows
Cuts held ended k j End =
    (j ≡ k) × ((k ≡ 0) ⊎ ((held ≡ []) × (ended ≡ true)))
    × ((more : List ℕ) → Follows ended more → pieces k (held ++ more) ≡ [])

-- ps are the pieces that the stream s is cut into, at most k of them.
pub record CutUp (k : ℕ) (s : List ℕ) (ps : List (List ℕ)) : Type 0 where
  -- what is left of the stream after the pieces
  pub rest : List ℕ
  -- end to end, the pieces are the beginning of the stream
  pub joins : flat_map (λ p. p) ps ++ rest ≡ s
  -- there are at most k pieces
  pub bounded : length ps ≤ k
  -- nothing is left unless there are just k pieces
  pub used_up : (length ps ≢ k) → rest ≡ []
  -- no piece is empty
  pub some : (i : ℕ) → i < length ps → 0 < length (slice_index_or ps i [])
  -- each piece is a whole section, or the last one, too short for a section, after which nothing is left
  pub each : (i : ℕ) → i < length ps → WholeSection (slice_index_or ps i []) ⊎ (TooShort (slice_index_or ps i []) × (i + 1 ≡ length ps) × (rest ≡ []))

-- The pieces of a stream are cut up so, and nothing else is.
abbrev pub PiecesLaw : Type 0
PiecesLaw = (k : ℕ) (s : List ℕ) → CutUp k s (pieces k s) × ((ps : List (List ℕ)) → CutUp k s ps → ps ≡ pieces k s)

-- The pieces that calls of `next` give, one after another, from a stream of which k pieces may still be cut, until the
-- answer is `End`. At each call some of what is left of the stream is held, and what is held of it is its front.
pub data Run : (k : ℕ) (s : List ℕ) → List (List ℕ) → Type 0 where
  -- the piece is given, and the stream goes on behind it
  gives : (k j n : ℕ) (held more : List ℕ) (ended : Bool) (ps : List (List ℕ)) → Follows ended more → Cuts held ended k j (Piece n) → Run j (drop n held ++ more) ps → Run k (held ++ more) (take n held ∷ ps)
  -- nothing is given, and more is held at the next call
  waits : (k j : ℕ) (held more : List ℕ) (ended : Bool) (ps : List (List ℕ)) → Follows ended more → Cuts held ended k j More → Run j (held ++ more) ps → Run k (held ++ more) ps
  -- nothing is left
  ends : (k j : ℕ) (held more : List ℕ) (ended : Bool) → Follows ended more → Cuts held ended k j End → Run k (held ++ more) []

-- However much of it is held at each call, a stream is cut into its pieces; and every stream can be run through.
pub record RunLaw : Type 0 where
  pub gives_pieces : (k : ℕ) (s : List ℕ) (ps : List (List ℕ)) → Run k s ps → ps ≡ pieces k s
  pub can_be_run : (k : ℕ) (s : List ℕ) → Run k s (pieces k s)
