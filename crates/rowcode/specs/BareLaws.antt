-- Any 191 bytes begin just one row of 191 bytes: themselves. A proof, no definition: it stands here since an implementation may
-- not cite proofs/ of its own crate.
use Rattle.std.proofs.Common.{ℕ, List, refl, sym, ◌∙◌, arith}
use Rattle.std.proofs.lemmas.List.{take_all}
use Rattle.rowcode.specs.Rows.{IsRow, OnlyIs, Begins}

pub any_begins : (front : List ℕ) → IsRow 191 front → (word : List ℕ) × OnlyIs (Begins (IsRow 191) front) word
any_begins front row = (
  front,
  record {
    is = record { is_codeword = row; same = refl };
    only = λ v begins. sym (take_all 191 v (omega (arith, begins.is_codeword.width_is))) ∙ begins.same ∙ take_all 191 front (omega (arith, row.width_is));
  },
)
