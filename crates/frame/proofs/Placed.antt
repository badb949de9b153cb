-- A datagram of a frame stands at its address, below E.
use Rattle.std.proofs.Common.{◌≡◌, ℕ, zero, suc, ◌+◌, ◌<◌, ◌≤◌, List, [], ◌∷◌, ◌++◌, length, sym, ap, ◌∙◌, append_assoc, length-append, arith}
use Rattle.std.specs.List.{Contains, concat}
use Rattle.std.proofs.lemmas.List.{get_or_append_left, get_or-append-add}
use Rattle.octets.specs.Octets.{byte}
use Rattle.frame.specs.Frames.{Frame, end_of, placed_from, HasDatagram, Lawful}

-- datagrams end to end from a on have this one at the address, between others
record Between (ds : List (List ℕ)) (a address : ℕ) (d : List ℕ) : Type 0 where
  before : List ℕ
  after : List ℕ
  all : concat ds ≡ before ++ (d ++ after)
  at : a + length before ≡ address

placed_between : (ds : List (List ℕ)) (a address : ℕ) (d : List ℕ) → Contains (placed_from a ds) (address, d) → Between ds a address d
placed_between [] a address d (k, below, is) = absurd (omega arith)
placed_between (e ∷ ds) a address d (zero, below, is) =
    let same = ap (λ (x : ℕ × List ℕ). x.1) is in
    let at = ap (λ (x : ℕ × List ℕ). x.0) is in
    record { before = []; after = concat ds; all = ap (λ x. x ++ concat ds) same; at = omega (arith, at) }
placed_between (e ∷ ds) a address d (suc k, below, is) =
    let later = placed_between ds (a + length e) address d (k, omega arith, is) in
    record {
      before = e ++ later.before;
      after = later.after;
      all = ap (λ x. e ++ x) later.all ∙ sym (append_assoc e later.before (d ++ later.after));
      at = omega (arith, length-append e later.before, later.at);
    }

-- where it stands, and that its bytes are in the cells there
pub record Stands (frame : Frame) (address : ℕ) (d : List ℕ) : Type 0 where
  pub below : address + length d ≤ end_of frame
  pub bytes : (k : ℕ) → k < length d → byte frame.cells (address + k) ≡ byte d k

pub stands : (m R : ℕ) (codeword : List ℕ → Type 0) (frame : Frame) (address : ℕ) (d : List ℕ) → Lawful m codeword R frame → HasDatagram frame address d → Stands frame address d
stands m R codeword frame address d lawful has =
    let b = placed_between frame.datagrams 0 address d has in
    let at : length b.before ≡ address = omega (arith, b.at) in
    let size = ap length b.all in
    let below : address + length d ≤ end_of frame = omega (arith, size, at, length-append b.before (d ++ b.after), length-append d b.after) in
    record {
      below = below;
      bytes = λ k inside.
          lawful.laid_out (address + k) (omega (arith, below))
          ∙ ap (λ xs. byte xs (address + k)) b.all
          ∙ ap (λ n. byte (b.before ++ (d ++ b.after)) (n + k)) (sym at)
          ∙ get_or-append-add b.before (d ++ b.after) k 0
          ∙ get_or_append_left d b.after 0 k inside;
    }
