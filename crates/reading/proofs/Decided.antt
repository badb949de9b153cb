-- What the decision on a place tells of the datagram that stands there, and where a read-out goes that finds none.
use Rattle.std.proofs.Common.{◌≡◌, ℕ, zero, suc, ◌+◌, ◌-◌, ◌*◌, ◌/◌, ◌<◌, ◌≤◌, Bool, true, false, not, ◌&&◌, ◌||◌, cond, nat_le, nat_lt, inl, inr, List, length, take, drop, refl, sym, ap, ap₂, ◌∙◌, subst, ⊎_elim, get_or-take, get_or-drop, ext_get_or, eqb-true, eq-eqb, ne_eqb, le-leb, leb-true, ltb-false, le-ltb, length-drop, length-take-le, arith}
use Rattle.std.specs.Prelude.{unwrap_or, find}
use Rattle.std.specs.List.{range_with_len, list_all}
use Rattle.std.proofs.lemmas.Bool.{cases_eq, cond_both, and_parts, and_from, or_cases, or_left, or_right, or_parts, not-false}
use Rattle.octets.specs.Octets.{byte}
use Rattle.section.specs.declared.datagrams.IpVersion.{IpVersion}
use Rattle.section.specs.declared.datagrams.IpVersion.TheVariants.{V4, V6}
use Rattle.section.specs.Datagrams.{version_number, told_length, whole_as, whole}
use Rattle.frame.specs.Heads.{length_end}
use Rattle.table.specs.Bursts.{start_at}
use Rattle.reading.specs.declared.decisions.Decision.{Decision}
use Rattle.reading.specs.declared.decisions.Decision.TheVariants.{NotTold, Wrong, Incomplete, Whole}
use Rattle.reading.specs.Decisions.{can_read, can_read_all, length_begin, has_version, told_as, sized, decision_at}
use Rattle.reading.specs.Laws.{HoldsWhole, DecidesWhole}
use Rattle.reading.specs.Reading.{next_start}

-- a test that passes along a run of numbers passes at each, and the other way round
each_of_run : (p : ℕ → Bool) (a n k : ℕ) → list_all p (range_with_len a n) ≡ true → a ≤ k → k < a + n → p k ≡ true
each_of_run p a zero k all above below = absurd (omega arith)
each_of_run p a (suc n) k all above below =
    let parts = and_parts (p a) _ all in
    elim (cases_eq a k) [
      | inl is ↦ rw is at parts.0
      | inr not ↦ each_of_run p (a + 1) n k parts.1 (omega (arith, not)) (omega arith)
    ]

all_of_run : (p : ℕ → Bool) (a n : ℕ) → ((k : ℕ) → a ≤ k → k < a + n → p k ≡ true) → list_all p (range_with_len a n) ≡ true
all_of_run p a zero each = refl
all_of_run p a (suc n) each = and_from _ _ (each a (omega arith) (omega arith)) (all_of_run p (a + 1) n (λ k above below. each k (omega arith) (omega arith)))

-- ---- what a decision tells

-- byte 0 and the length bytes of a datagram of this version can be read at the place
pub record ReadsHead (cells marks : List ℕ) (place : ℕ) (v : IpVersion) : Type 0 where
  pub first : can_read cells marks place ≡ true
  pub is_version : has_version v cells place ≡ true
  pub begin : can_read cells marks (place + length_begin v) ≡ true
  pub end : can_read cells marks (place + length_end v) ≡ true

-- a datagram of n bytes tells itself there; it has not too few nor too many of them, and they lie below the limit
pub record Told (cells marks : List ℕ) (place n : ℕ) : Type 0 where
  pub version : IpVersion
  pub head : ReadsHead cells marks place version
  pub told : n ≡ told_length version (drop place cells)
  pub least : 20 ≤ n
  pub most : n ≤ 4080
  pub below : place + n ≤ length cells

-- what a decision tells of its place
abbrev pub Tells : (cells marks : List ℕ) → (place : ℕ) → Decision → Type 0
Tells cells marks place NotTold = Unit {0}
Tells cells marks place Wrong = Unit {0}
Tells cells marks place (Incomplete n) = Told cells marks place n × (can_read_all cells marks place n ≡ false)
Tells cells marks place (Whole n) = Told cells marks place n × (can_read_all cells marks place n ≡ true)

module _ (cells marks : List ℕ) (place : ℕ) where
  sized_tells : (v : IpVersion) → ReadsHead cells marks place v → Tells cells marks place (sized cells marks place (told_length v (drop place cells)))
  sized_tells v head = by_size (told_length v (drop place cells)) refl
    where
      by_size : (n : ℕ) → n ≡ told_length v (drop place cells) → Tells cells marks place (sized cells marks place n)
      by_size n told =
          cond_both (not (nat_le 20 n && nat_le n 4080) || nat_lt (length cells) (place + n)) Wrong _ (Tells cells marks place) (λ refused. tt) (λ fits.
          let parts = or_parts _ _ fits in
          let size = and_parts _ _ (not-false _ parts.0) in
          let is : Told cells marks place n = record {
            version = v;
            head = head;
            told = told;
            least = leb-true _ _ size.0;
            most = leb-true _ _ size.1;
            below = ltb-false _ _ parts.1;
          } in
          cond_both (can_read_all cells marks place n) (Whole n) (Incomplete n) (Tells cells marks place) (λ all. (is, all)) (λ gap. (is, gap)))

  told_as_tells : (v : IpVersion) → can_read cells marks place ≡ true → has_version v cells place ≡ true → Tells cells marks place (told_as v cells marks place)
  told_as_tells v first is_version =
      cond_both (can_read cells marks (place + length_begin v) && can_read cells marks (place + length_end v)) _ NotTold (Tells cells marks place) (λ read.
      let ends = and_parts _ _ read in
      sized_tells v (record { first = first; is_version = is_version; begin = ends.0; end = ends.1 })) (λ unread. tt)

  pub tells : Tells cells marks place (decision_at cells marks place)
  unfolding decision_at
  tells =
      cond_both (not (can_read cells marks place)) NotTold _ (Tells cells marks place) (λ unread. tt) (λ read.
      cond_both (has_version V4 cells place) _ _ (Tells cells marks place) (told_as_tells V4 (not-false _ read)) (λ other.
      cond_both (has_version V6 cells place) _ Wrong (Tells cells marks place) (told_as_tells V6 (not-false _ read)) (λ neither. tt)))

  pub whole_tells : (n : ℕ) → decision_at cells marks place ≡ Whole n → Told cells marks place n × (can_read_all cells marks place n ≡ true)
  whole_tells n is = subst (Tells cells marks place) is tells

  pub incomplete_tells : (n : ℕ) → decision_at cells marks place ≡ Incomplete n → Told cells marks place n × (can_read_all cells marks place n ≡ false)
  incomplete_tells n is = subst (Tells cells marks place) is tells

  -- and back: what tells itself is decided, by whether all of it can be read
  sized_is : (n : ℕ) → Told cells marks place n → sized cells marks place n ≡ cond (can_read_all cells marks place n) (Whole n) (Incomplete n)
  sized_is n is = rw (le-leb 20 n is.least, le-leb n 4080 is.most, le-ltb (length cells) (place + n) is.below)

  told_is : (n : ℕ) → Told cells marks place n → decision_at cells marks place ≡ sized cells marks place n
  unfolding decision_at
  told_is n is = rw (is.head.first, is.told) (by_version is.version is.head)
    where
      by_version : (v : IpVersion) → ReadsHead cells marks place v
          → cond (has_version V4 cells place) (told_as V4 cells marks place) (cond (has_version V6 cells place) (told_as V6 cells marks place) Wrong)
          ≡ sized cells marks place (told_length v (drop place cells))
      by_version V4 head = rw (head.is_version, head.begin, head.end)
      by_version V6 head =
          let not_four = ne_eqb (byte cells place / 16) 4 (λ four. omega (arith, four, eqb-true _ _ head.is_version)) in
          rw (not_four, head.is_version, head.begin, head.end)

  pub told_decides : (n : ℕ) → Told cells marks place n → decision_at cells marks place ≡ cond (can_read_all cells marks place n) (Whole n) (Incomplete n)
  told_decides n is = told_is n is ∙ sized_is n is

-- the decision is on a datagram of n bytes, whole or not
abbrev pub IsSized : ℕ → Decision → Type 0
IsSized n NotTold = ⊥
IsSized n Wrong = ⊥
IsSized n (Incomplete k) = k ≡ n
IsSized n (Whole k) = k ≡ n

pub told_sizes : (cells marks : List ℕ) (place n : ℕ) → Told cells marks place n → IsSized n (decision_at cells marks place)
told_sizes cells marks place n is =
    rw (told_decides cells marks place n is) (cond_both (can_read_all cells marks place n) (Whole n) (Incomplete n) (IsSized n) (λ all. refl) (λ gap. refl))

module _ (cells marks : List ℕ) (place n : ℕ) where
  pub each_read : can_read_all cells marks place n ≡ true → (k : ℕ) → k < n → can_read cells marks (place + k) ≡ true
  each_read all k below = each_of_run (can_read cells marks) place n (place + k) all (omega arith) (omega arith)

  pub all_read : ((k : ℕ) → k < n → can_read cells marks (place + k) ≡ true) → can_read_all cells marks place n ≡ true
  all_read each = all_of_run (can_read cells marks) place n (λ k above below.
      let at : place + (k - place) ≡ k = omega arith in
      rw at at (each (k - place) (omega arith)))

-- ---- a whole datagram, and the decision on the place where it stands

-- what a whole datagram of this version tells of itself
pub record OneWhole (v : IpVersion) (d : List ℕ) : Type 0 where
  pub is_version : byte d 0 / 16 ≡ version_number v
  pub told : told_length v d ≡ length d
  pub least : 20 ≤ length d
  pub most : length d ≤ 4080

one_whole : (v : IpVersion) (d : List ℕ) → whole_as v d ≡ true → OneWhole v d
one_whole v d is =
    let most = and_parts _ _ is in
    let least = and_parts _ _ most.0 in
    let told = and_parts _ _ least.0 in
    record { is_version = eqb-true _ _ told.0; told = eqb-true _ _ told.1; least = leb-true _ _ least.1; most = leb-true _ _ most.1 }

pub some_whole : (d : List ℕ) → whole d ≡ true → (v : IpVersion) × OneWhole v d
some_whole d is = ⊎_elim (λ four. (V4, one_whole V4 d four)) (λ six. (V6, one_whole V6 d six)) (or_cases _ _ is)

-- it has just one version
one_version : (v w : IpVersion) → version_number v ≡ version_number w → v ≡ w
one_version V4 V4 same = refl
one_version V4 V6 same = absurd (omega arith)
one_version V6 V4 same = absurd (omega arith)
one_version V6 V6 same = refl

pub whole_of_version : (d : List ℕ) → whole d ≡ true → (v : IpVersion) → byte d 0 / 16 ≡ version_number v → OneWhole v d
whole_of_version d is v is_version =
    let some = some_whole d is in
    subst (λ w. OneWhole w d) (one_version some.0 v (sym some.1.is_version ∙ is_version)) some.1

whole_from : (v : IpVersion) (d : List ℕ) → OneWhole v d → whole_as v d ≡ true
whole_from v d is = rw (eq-eqb _ _ is.is_version, eq-eqb _ _ is.told, le-leb 20 (length d) is.least, le-leb (length d) 4080 is.most)

-- the length bytes stand in the first 20 bytes, and tell the length alone
pub head_short : (v : IpVersion) → (length_begin v < 20) × (length_end v < 20)
head_short V4 = (omega arith, omega arith)
head_short V6 = (omega arith, omega arith)

told_alike : (v : IpVersion) (xs ys : List ℕ) → byte xs (length_begin v) ≡ byte ys (length_begin v) → byte xs (length_end v) ≡ byte ys (length_end v)
    → told_length v xs ≡ told_length v ys
told_alike V4 xs ys high low = ap₂ (λ h l. h * 256 + l) high low
told_alike V6 xs ys high low = ap₂ (λ h l. 40 + (h * 256 + l)) high low

-- a datagram stands at the place, below the limit: what can be read of its cells are its bytes
pub record Shows (cells marks : List ℕ) (place : ℕ) (d : List ℕ) : Type 0 where
  pub below : place + length d ≤ length cells
  pub bytes : (k : ℕ) → k < length d → can_read cells marks (place + k) ≡ true → byte cells (place + k) ≡ byte d k

module _ (cells marks : List ℕ) (place : ℕ) (d : List ℕ) (shows : Shows cells marks place d) (is_whole : whole d ≡ true) where
  first_shown : can_read cells marks place ≡ true → byte cells place ≡ byte d 0
  first_shown read =
      let one = some_whole d is_whole in
      let least = one.1.least in
      let at : place + 0 ≡ place = omega arith in
      rw at at (shows.bytes 0 (omega arith) (rw at read))

  length_shown : (v : IpVersion) → OneWhole v d → can_read cells marks (place + length_begin v) ≡ true → can_read cells marks (place + length_end v) ≡ true
      → told_length v (drop place cells) ≡ length d
  length_shown v one begin end =
      let short = head_short v in
      told_alike v (drop place cells) d
      (get_or-drop place cells (length_begin v) 0 ∙ shows.bytes (length_begin v) (omega (arith, one.least)) begin)
      (get_or-drop place cells (length_end v) 0 ∙ shows.bytes (length_end v) (omega (arith, one.least)) end)
      ∙ one.told

  -- it tells itself, where its head can be read
  pub shown_told : (v : IpVersion) → byte d 0 / 16 ≡ version_number v
      → can_read cells marks place ≡ true → can_read cells marks (place + length_begin v) ≡ true → can_read cells marks (place + length_end v) ≡ true
      → Told cells marks place (length d)
  shown_told v is_version first begin end =
      let one = whole_of_version d is_whole v is_version in
      record {
        version = v;
        head = record { first = first; is_version = eq-eqb _ _ (ap (λ b. b / 16) (first_shown first) ∙ is_version); begin = begin; end = end };
        told = sym (length_shown v one begin end);
        least = one.least;
        most = one.most;
        below = shows.below;
      }

  -- and what tells itself there is it
  pub told_version : (n : ℕ) → (is : Told cells marks place n) → byte d 0 / 16 ≡ version_number is.version
  told_version n is = ap (λ b. b / 16) (sym (first_shown is.head.first)) ∙ eqb-true _ _ is.head.is_version

  pub told_size : (n : ℕ) → Told cells marks place n → n ≡ length d
  told_size n is = is.told ∙ length_shown is.version (whole_of_version d is_whole is.version (told_version n is)) is.head.begin is.head.end

-- where all of it can be read, the cells there are it
pub shown_part : (cells marks : List ℕ) (place : ℕ) (d : List ℕ) → Shows cells marks place d → ((k : ℕ) → k < length d → can_read cells marks (place + k) ≡ true)
    → take (length d) (drop place cells) ≡ d
shown_part cells marks place d shows each =
    let size = length-take-le (length d) (drop place cells) (omega (arith, shows.below, length-drop place cells)) in
    ext_get_or 0 (take (length d) (drop place cells)) d size (λ k below.
    let inside : k < length d = omega (arith, size) in
    get_or-take (length d) (drop place cells) k 0 inside ∙ get_or-drop place cells k 0 ∙ shows.bytes k inside (each k inside))

-- the n bytes from the place on
module _ (cells marks : List ℕ) (place n : ℕ) (below : place + n ≤ length cells) where
  part_size : length (take n (drop place cells)) ≡ n
  part_size = length-take-le n (drop place cells) (omega (arith, length-drop place cells))

  part_at : (k : ℕ) → k < n → byte (take n (drop place cells)) k ≡ byte cells (place + k)
  part_at k less = get_or-take n (drop place cells) k 0 less ∙ get_or-drop place cells k 0

  part_shows : Shows cells marks place (take n (drop place cells))
  part_shows = record { below = rw part_size below; bytes = λ k less read. sym (part_at k (omega (arith, part_size))) }

  told_whole : Told cells marks place n → whole (take n (drop place cells)) ≡ true
  told_whole is =
      let short = head_short is.version in
      let at_0 : place + 0 ≡ place = omega arith in
      by_version is.version (whole_from is.version (take n (drop place cells)) (record {
        is_version = ap (λ b. b / 16) (part_at 0 (omega (arith, is.least)) ∙ ap (byte cells) at_0) ∙ eqb-true _ _ is.head.is_version;
        told =
            told_alike is.version (take n (drop place cells)) (drop place cells)
            (get_or-take n (drop place cells) (length_begin is.version) 0 (omega (arith, is.least))) (get_or-take n (drop place cells) (length_end is.version) 0 (omega (arith, is.least)))
            ∙ sym is.told ∙ sym part_size;
        least = rw part_size is.least;
        most = rw part_size is.most;
      }))
    where
      by_version : (v : IpVersion) → whole_as v (take n (drop place cells)) ≡ true → whole (take n (drop place cells)) ≡ true
      by_version V4 is = or_left _ _ is
      by_version V6 is = or_right _ _ is

  whole_told : HoldsWhole cells marks place n → Told cells marks place n
  whole_told holds =
      let some = some_whole (take n (drop place cells)) holds.whole in
      let short = head_short some.0 in
      let many : 20 ≤ n = omega (arith, part_size, some.1.least) in
      let at_0 : place + 0 ≡ place = omega arith in
      subst (Told cells marks place) part_size (shown_told cells marks place (take n (drop place cells)) part_shows holds.whole some.0 some.1.is_version
      (rw at_0 at (holds.known 0 (omega arith))) (holds.known (length_begin some.0) (omega arith)) (holds.known (length_end some.0) (omega arith)))

pub decides_whole : (cells marks : List ℕ) (place : ℕ) → DecidesWhole cells marks place (decision_at cells marks place)
decides_whole cells marks place n = (
  λ is.
      let told = whole_tells cells marks place n is in
      record { below = told.0.below; known = each_read cells marks place n told.1; whole = told_whole cells marks place n told.0.below told.0 },
  λ holds.
      let told = whole_told cells marks place n holds.below holds in
      told_decides cells marks place n told ∙ rw (all_read cells marks place n holds.known),
)

-- ---- the next start

-- the first number from a on that passes, or the end of their run
pub record First (p : ℕ → Bool) (a end first : ℕ) : Type 0 where
  pub above : a ≤ first
  pub most : first ≤ end
  pub passes : first < end → p first ≡ true
  pub least : (k : ℕ) → a ≤ k → k < first → p k ≡ false

first_found : (p : ℕ → Bool) (a n end : ℕ) → a + n ≡ end → First p a end (unwrap_or (find p (range_with_len a n)) end)
first_found p a zero end is = record { above = omega arith; most = omega arith; passes = λ below. absurd (omega arith); least = λ k above below. absurd (omega arith) }
first_found p a (suc n) end is =
    cond_both (p a) _ _ (λ o. First p a end (unwrap_or o end))
    (λ yes. record { above = omega arith; most = omega arith; passes = λ below. yes; least = λ k above below. absurd (omega arith) })
    (λ not. let later = first_found p (a + 1) n end (omega arith) in
    record {
      above = omega (arith, later.above);
      most = later.most;
      passes = later.passes;
      least = λ k above below. elim (cases_eq a k) [ inl is ↦ rw is at not | inr other ↦ later.least k (omega (arith, other)) below ];
    })

pub next_is_first : (marks : List ℕ) (limit place : ℕ) → place < limit → First (start_at marks) (place + 1) limit (next_start marks limit place)
unfolding next_start
next_is_first marks limit place below = first_found (start_at marks) (place + 1) (limit - (place + 1)) limit (omega arith)
