-- A burst that has just started knows nothing, and so agrees with every frame.
use Rattle.std.proofs.Common.{◌≡◌, ℕ, zero, suc, List, replicate, sym, ◌∙◌, refl}
use Rattle.std.proofs.lemmas.Bool.{true≢false}
use Rattle.std.proofs.lemmas.Option.{none-some}
use Rattle.octets.specs.Octets.{byte}
use Rattle.frame.specs.Frames.{Frame}
use Rattle.table.specs.Bursts.{started, table_of}
use Rattle.table.specs.Laws.{Agrees}

pub unmarked : (n i : ℕ) → byte (replicate n 0) i ≡ 0
unmarked zero i = refl
unmarked (suc n) zero = refl
unmarked (suc n) (suc i) = unmarked n i

pub nothing_known : (frame : Frame) (R : ℕ) (cells : List ℕ) (n : ℕ) → Agrees frame (table_of (started R) cells (replicate n 0))
nothing_known frame R cells n = record {
  bytes = λ i b known. absurd (none-some b (sym (rw (unmarked n i) refl) ∙ known));
  received = λ i below received. absurd (true≢false (sym received ∙ rw (unmarked n i) refl));
  end = λ e told. absurd (none-some e told);
  padding = λ p told. absurd (none-some p told);
}
