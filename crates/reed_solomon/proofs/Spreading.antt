-- A row of which just the first 191 bytes are known is filled, with the codeword that they begin.
use Rattle.std.proofs.Common.{◌≡◌, ℕ, Bool, List, length, subst, arith}
use Rattle.rowcode.specs.Answers.{Mends}
use Rattle.rowcode.specs.Rows.{IsRow, Agrees, Begins, OnlyIs}
use Rattle.rowcode.specs.declared.Mended.{Mended}
use Rattle.rowcode.specs.declared.Mended.TheVariants.{Filled, Torn, Open}
use Rattle.rs_code.specs.Codewords.{Codeword}
use Rattle.rs_code.specs.Counts.{IsFront}
use Rattle.rs_code.proofs.Completions.{just_one, one_agrees}
use Rattle.rs_code.proofs.Fronts.{front_count, to_begins}

pub front_begins : (answer : Mended) (known : List Bool) (row after : List ℕ) → IsFront known → length row ≡ 255 → IsRow 255 after
    → Mends Codeword known row after answer → Begins Codeword row after
front_begins Filled known row after front wide is p = to_begins known row after front wide p.is
front_begins Torn known row after front wide is p =
    let row_is : IsRow 255 row = subst (IsRow 255) p.1 is in
    let one : (word : List ℕ) × OnlyIs (Agrees Codeword known row) word = just_one known row row_is (front_count known front) in
    absurd (p.0 one.0 one.1.is)
front_begins Open known row after front wide is p =
    absurd (p.0.differ (one_agrees known row p.0.one p.0.other wide (omega (arith, front_count known front)) p.0.one_is p.0.other_is))
