-- Which codewords agree with a row: those that mend takes, by the row's bytes and what is known of them, and those that agree
-- with what the buffers hold of it are the same.
use Rattle.std.proofs.Common.{◌≡◌, ℕ, ◌<◌, Bool, true, false, cond, List, length, Some, None, refl, sym, ap, ◌∙◌, arith}
use Rattle.std.proofs.lemmas.List.FromFn.{get_or-map-range_with_len, length-map-range_with_len}
use Rattle.octets.specs.Octets.{byte}
use Rattle.geometry.specs.Cells.{width, cell, row_bytes}
use Rattle.marks.specs.Marks.{mark_of, is_known as mark_is_known}
use Rattle.rowcode.specs.Rows.{Agrees, NoneIs, OnlyIs, TwoAre, is_known}
use Rattle.table.specs.Bursts.{known_at}
use Rattle.table.specs.Closing.{RowStays}
use Rattle.table.specs.Rows.{AgreesInRow}
use Rattle.closing.specs.Rows.{KnownBy}

-- two facts of rows that hold of the same ones
pub record Alike (P Q : List ℕ → Type 0) : Type 0 where
  to : (v : List ℕ) → P v → Q v
  back : (v : List ℕ) → Q v → P v

-- of such two, none, just one, or two or more rows are as both say
pub none_alike : (P Q : List ℕ → Type 0) → Alike P Q → NoneIs P → NoneIs Q
none_alike P Q alike none = λ v q. none v (alike.back v q)

pub only_alike : (P Q : List ℕ → Type 0) (word : List ℕ) → Alike P Q → OnlyIs P word → OnlyIs Q word
only_alike P Q word alike only = record { is = alike.to word only.is; only = λ v q. only.only v (alike.back v q) }

pub two_alike : (P Q : List ℕ → Type 0) → Alike P Q → TwoAre P → TwoAre Q
two_alike P Q alike two = record {
  one = two.one;
  other = two.other;
  one_is = alike.to two.one two.one_is;
  other_is = alike.to two.other two.other_is;
  differ = two.differ;
}

-- a byte of a row of the cells
pub row_byte : (R : ℕ) (cells : List ℕ) (r n c : ℕ) → c < n → byte (row_bytes R cells r n) c ≡ byte cells (cell R r c)
row_byte R cells r n c h = get_or-map-range_with_len (λ k. byte cells (cell R r k)) 0 n c c 0 h (omega arith)

-- and how many there are
pub row_wide : (R : ℕ) (cells : List ℕ) (r n : ℕ) → length (row_bytes R cells r n) ≡ n
row_wide R cells r n = length-map-range_with_len (λ k. byte cells (cell R r k)) 0 n

-- what is known where a mark says so, and where it is said to be
known_byte : (known : Bool) (x b : ℕ) → cond known (Some x) None ≡ Some b → (known ≡ true) × (x ≡ b)
known_byte true x b is = (refl, cc)
known_byte false x b is = cc

-- the words that agree with a row by its bytes are those that agree with what the buffers hold of it
pub row_alike : (m : ℕ) (codeword : List ℕ → Type 0) (R r : ℕ) (cells marks : List ℕ) (known : List Bool) → KnownBy (row_bytes R marks r (width m)) known
    → Alike (Agrees codeword known (row_bytes R cells r (width m))) (AgreesInRow m codeword R (known_at cells marks) r)
row_alike m codeword R r cells marks known by =
    let wide : length (row_bytes R cells r (width m)) ≡ width m = row_wide R cells r (width m) in
    let marked : length (row_bytes R marks r (width m)) ≡ width m = row_wide R marks r (width m) in
    let at : (c : ℕ) → c < width m → is_known known c ≡ mark_is_known (mark_of (byte marks (cell R r c)))
    = λ c h. by.each c (rw marked h) ∙ ap (λ b. mark_is_known (mark_of b)) (row_byte R marks r (width m) c h) in
    record {
      to = λ word agrees. record {
        is_codeword = agrees.is_codeword;
        same = λ c b h is.
            let here = known_byte _ (byte cells (cell R r c)) b is in
            agrees.same c (rw wide h) (at c h ∙ here.0) ∙ row_byte R cells r (width m) c h ∙ here.1;
      };
      back = λ word agrees. record {
        is_codeword = agrees.is_codeword;
        same = λ c h is.
            let inside : c < width m = rw wide at h in
            agrees.same c (byte cells (cell R r c)) inside (ap (λ k. cond k (Some (byte cells (cell R r c))) None) (sym (at c inside) ∙ is)) ∙ sym (row_byte R cells r (width m) c inside);
      };
    }

-- the same words agree with a row of other buffers that hold the same of it
pub stays_alike : (m : ℕ) (codeword : List ℕ → Type 0) (R r : ℕ) (cells marks other_cells other_marks : List ℕ) → RowStays m R cells other_cells r → RowStays m R marks other_marks r
    → Alike (AgreesInRow m codeword R (known_at other_cells other_marks) r) (AgreesInRow m codeword R (known_at cells marks) r)
stays_alike m codeword R r cells marks other_cells other_marks same_cells same_marks =
    let at : (c : ℕ) → c < width m → known_at other_cells other_marks (cell R r c) ≡ known_at cells marks (cell R r c)
    = λ c h. rw (same_cells c h, same_marks c h) refl in
    record {
      to = λ word agrees. record { is_codeword = agrees.is_codeword; same = λ c b h is. agrees.same c b h (at c h ∙ is) };
      back = λ word agrees. record { is_codeword = agrees.is_codeword; same = λ c b h is. agrees.same c b h (sym (at c h) ∙ is) };
    }
