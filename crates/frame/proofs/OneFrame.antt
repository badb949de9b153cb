-- For datagrams that fit there is just one lawful frame.
use Rattle.std.proofs.Common.{◌≡◌, ℕ, ◌+◌, ◌-◌, ◌/◌, ◌%◌, ◌<◌, ◌≤◌, List, [], ◌∷◌, ◌++◌, length, map, take, sym, refl, ap, ap₂, subst, ◌∙◌, ⊎_elim, le-add_right, le_of_eq, mul-le-mul_right, lit<, arith}
use Rattle.std.specs.List.{range_with_len, Contains}
use Rattle.std.proofs.lemmas.Bool.{cases_lt}
use Rattle.std.proofs.lemmas.List.{places, get_or_past, get_or-take, length-take-le, ext_get_or, take_all}
use Rattle.std.proofs.lemmas.List.Elements.{Contains-append_right}
use Rattle.std.proofs.lemmas.List.FromFn.{length-map-range_with_len, get_or-map-range_with_len, fill_by_all}
use Rattle.std.proofs.lemmas.Nat.{div-add-mod', div-mul-add, mod-mul-add, mul-add-lt, div_below, mod_below}
use Rattle.octets.specs.Octets.{Bytes, byte}
use Rattle.geometry.specs.Cells.{width, table_size, frame_size, cell}
use Rattle.rowcode.specs.Rows.{IsRow, Begins, OnlyIs}
use Rattle.frame.specs.Frames.{Frame, laid, end_of, row_of, Fit, Lawful}
use Rattle.frame.specs.Laws.{OneFrame}

-- ---- the first 191 bytes of each row

-- bytes with bytes behind them are bytes
pub joined_bytes : (xs ys : List ℕ) → Bytes xs → ((k : ℕ) → byte ys k < 256) → (k : ℕ) → byte (xs ++ ys) k < 256
joined_bytes xs ys first rest k = grind (arith, places, cases_lt k (length xs), first k, rest (k - length xs))

-- so datagrams laid end to end are bytes, and so are the zeros behind them
laid_bytes : (ds : List (List ℕ)) → ((d : List ℕ) → Contains ds d → Bytes d) → (k : ℕ) → byte (laid ds) k < 256
laid_bytes [] each k = lit< tt
laid_bytes (d ∷ ds) each k =
    joined_bytes d (laid ds) (each d (0, omega arith, refl)) (laid_bytes ds (λ e has. each e (Contains-append_right (d ∷ []) ds e has))) k

-- those of row r, and each of them
front : (ds : List (List ℕ)) (R r : ℕ) → List ℕ
front ds R r = map (λ c. byte (laid ds) (cell R r c)) (range_with_len 0 191)

front_at : (ds : List (List ℕ)) (R r c : ℕ) → c < 191 → byte (front ds R r) c ≡ byte (laid ds) (cell R r c)
unfolding front
front_at ds R r c l = get_or-map-range_with_len (λ c. byte (laid ds) (cell R r c)) 0 191 c c 0 l (omega arith)

-- they can begin a codeword
front_row : (ds : List (List ℕ)) (R r : ℕ) → ((d : List ℕ) → Contains ds d → Bytes d) → IsRow 191 (front ds R r)
unfolding front
front_row ds R r each =
    let wide = length-map-range_with_len (λ c. byte (laid ds) (cell R r c)) 0 191 in
    record { width_is = wide; bytes = λ c l. rw (front_at ds R r c (omega (arith, wide))) (laid_bytes ds each (cell R r c)) }

-- ---- the cells that hold a codeword in each row

-- codeword r in row r, and the cell at each place
cells_of : (m R : ℕ) → (word : ℕ → List ℕ) → List ℕ
cells_of m R word = map (λ i. byte (word (i % R)) (i / R)) (range_with_len 0 (frame_size m R))

cells_size : (m R : ℕ) (word : ℕ → List ℕ) → length (cells_of m R word) ≡ frame_size m R
unfolding cells_of
cells_size m R word = length-map-range_with_len (λ i. byte (word (i % R)) (i / R)) 0 (frame_size m R)

cells_at : (m R : ℕ) (word : ℕ → List ℕ) (i : ℕ) → i < frame_size m R → byte (cells_of m R word) i ≡ byte (word (i % R)) (i / R)
unfolding cells_of
cells_at m R word i l = get_or-map-range_with_len (λ i. byte (word (i % R)) (i / R)) 0 (frame_size m R) i i 0 l (omega arith)

-- the byte in column c of row r of any cells
in_row : (m R : ℕ) (cells : List ℕ) (r c : ℕ) → c < width m → byte (row_of m R cells r) c ≡ byte cells (cell R r c)
in_row m R cells r c l = get_or-map-range_with_len (λ c. byte cells (cell R r c)) 0 (width m) c c 0 l (omega arith)

-- row r of these is that row's codeword
cells_row : (m R : ℕ) (word : ℕ → List ℕ) (r : ℕ) → r < R → length (word r) ≡ width m → row_of m R (cells_of m R word) r ≡ word r
cells_row m R word r below wide = sym (fill_by_all (λ c. byte (cells_of m R word) (cell R r c)) (word r) (width m) 0 wide at)
  where
    at : (c : ℕ) → c < width m → byte (word r) c ≡ byte (cells_of m R word) (cell R r c)
    at c l =
        sym (cells_at m R word (cell R r c) (omega (arith, mul-add-lt c R r (width m) l below))
        ∙ ap₂ (λ r c. byte (word r) c) (mod-mul-add c R r below) (div-mul-add c R r below))

-- ---- the codewords that the rows begin

-- for each row, the only codeword that its front begins
record Words (m : ℕ) (codeword : List ℕ → Type 0) (R : ℕ) (ds : List (List ℕ)) (word : ℕ → List ℕ) : Type 0 where
  pub is_row : (r : ℕ) → IsRow (191 + m) (word r)
  pub one : (r : ℕ) → OnlyIs (Begins codeword (front ds R r)) (word r)

-- with those as rows, the datagrams stand end to end in the application table, and zeros behind them
datagrams_there : {m R : ℕ} {codeword : List ℕ → Type 0} {ds : List (List ℕ)} {word : ℕ → List ℕ} → Words m codeword R ds word → 1 ≤ R
    → (a : ℕ) → a < table_size R → byte (cells_of m R word) a ≡ byte (laid ds) a
datagrams_there {m} {R} {ds = ds} {word = word} words some a l =
    let early : a / R < 191 = div_below a R 191 some l in
    cells_at m R word a (omega (arith, mul-le-mul_right R (le-add_right 191 m)))
    ∙ sym (get_or-take 191 (word (a % R)) (a / R) 0 early)
    ∙ ap (λ xs. byte xs (a / R)) (words.one (a % R)).is.same
    ∙ get_or-take 191 (front ds R (a % R)) (a / R) 0 early
    ∙ front_at ds R (a % R) (a / R) early
    ∙ ap (byte (laid ds)) (div-add-mod' a R)

-- so that frame is lawful
is_lawful : {m R : ℕ} {codeword : List ℕ → Type 0} {ds : List (List ℕ)} {word : ℕ → List ℕ} → Words m codeword R ds word → 1 ≤ R → Fit R ds
    → Lawful m codeword R (record { datagrams = ds; cells = cells_of m R word })
is_lawful {m} {R} {ds = ds} {word = word} words some fit = record {
  datagrams = fit;
  size = cells_size m R word;
  bytes = λ i l.
      let inside : i < frame_size m R = omega (arith, cells_size m R word) in
      let row = words.is_row (i % R) in
      rw (cells_at m R word i inside) (row.bytes (i / R) (omega (arith, row.width_is, div_below i R (width m) some inside)));
  laid_out = λ a l. datagrams_there words some a (omega (arith, fit.fit));
  padding = λ a past l. datagrams_there words some a l ∙ get_or_past (laid ds) a 0 past;
  codewords = λ r l. rw (cells_row m R word r l (words.is_row r).width_is) (words.one r).is.is_codeword;
}

-- ---- no other frame is lawful

-- in the application table of a lawful frame stand the datagrams, and zeros behind them
application : {m R : ℕ} {codeword : List ℕ → Type 0} {f : Frame} → Lawful m codeword R f
    → (a : ℕ) → a < table_size R → byte f.cells a ≡ byte (laid f.datagrams) a
application {f = f} lawful a l =
    ⊎_elim (lawful.laid_out a) (λ past. lawful.padding a past l ∙ sym (get_or_past (laid f.datagrams) a 0 past)) (cases_lt a (end_of f))

-- so its rows begin as they must
begins_so : (m R : ℕ) (cells : List ℕ) (ds : List (List ℕ)) (r : ℕ) → r < R → ((a : ℕ) → a < table_size R → byte cells a ≡ byte (laid ds) a)
    → take 191 (row_of m R cells r) ≡ take 191 (front ds R r)
unfolding front
begins_so m R cells ds r below there =
    let f = λ (c : ℕ). byte (laid ds) (cell R r c) in
    fill_by_all f (take 191 (row_of m R cells r)) 191 0
    (length-take-le 191 (row_of m R cells r) (omega (arith, length-map-range_with_len (λ c. byte cells (cell R r c)) 0 (width m))))
    (λ c l.
    get_or-take 191 (row_of m R cells r) c 0 l
    ∙ in_row m R cells r c (omega arith)
    ∙ there (cell R r c) (omega (arith, mul-add-lt c R r 191 l below)))
    ∙ sym (take_all 191 (front ds R r) (le_of_eq (length-map-range_with_len f 0 191)))

-- and they are those codewords
cells_are : {m R : ℕ} {codeword : List ℕ → Type 0} {f : Frame} {word : ℕ → List ℕ} → Words m codeword R f.datagrams word → 1 ≤ R → Lawful m codeword R f
    → f.cells ≡ cells_of m R word
cells_are {m} {R} {f = f} {word} words some lawful = ext_get_or 0 f.cells (cells_of m R word) (lawful.size ∙ sym (cells_size m R word)) same
  where
    row : (r : ℕ) → r < R → row_of m R f.cells r ≡ word r
    row r below =
        (words.one r).only (row_of m R f.cells r)
        (record { is_codeword = lawful.codewords r below; same = begins_so m R f.cells f.datagrams r below (application lawful) })

    same : (i : ℕ) → i < length f.cells → byte f.cells i ≡ byte (cells_of m R word) i
    same i l =
        let inside : i < frame_size m R = omega (arith, lawful.size) in
        sym (in_row m R f.cells (i % R) (i / R) (div_below i R (width m) some inside) ∙ ap (byte f.cells) (div-add-mod' i R))
        ∙ ap (λ xs. byte xs (i / R)) (row (i % R) (mod_below i R some))
        ∙ sym (cells_at m R word i inside)

-- a row code's laws give each row its codeword
pub one_frame : (m : ℕ) (codeword : List ℕ → Type 0) → ((word : List ℕ) → codeword word → IsRow (191 + m) word)
    → ((front : List ℕ) → IsRow 191 front → (word : List ℕ) × OnlyIs (Begins codeword front) word) → OneFrame m codeword
one_frame m codeword rows begins R some ds fit = (
  record { datagrams = ds; cells = cells_of m R word },
  (
    refl,
    is_lawful words some fit,
    λ g same lawful.
        let same_cells = cells_are (subst (λ d. Words m codeword R d word) (sym same) words) some lawful in
        ap₂ (λ d c. record { datagrams = d; cells = c }) same same_cells,
  ),
)
  where
    begun : (r : ℕ) → (word : List ℕ) × OnlyIs (Begins codeword (front ds R r)) word
    begun r = begins (front ds R r) (front_row ds R r fit.bytes)

    word : ℕ → List ℕ
    word r = (begun r).0

    words : Words m codeword R ds word
    words = record { is_row = λ r. rows (word r) (begun r).1.is.is_codeword; one = λ r. (begun r).1 }
