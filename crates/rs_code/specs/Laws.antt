-- What the codewords of RS(255,191) have in common: any 191 bytes of one fix the others, and no fewer do.
use Rattle.std.specs.Prelude.{◌≡◌, ◌≢◌, ℕ, ◌<◌, ◌≤◌, Bool, not, List, ◌==◌}
use Rattle.octets.specs.Octets.{byte}
use Rattle.rowcode.specs.Rows.{IsRow, Agrees, OnlyIs, TwoAre}
use Rattle.rs_code.specs.Codewords.{Codeword}
use Rattle.rs_code.specs.Counts.{count, known_count}

-- at how many places two rows differ
abbrev pub distance : (one other : List ℕ) → ℕ
distance one other = count (λ i. not (byte one i == byte other i)) 255

pub record CodewordLaws : Type 0 where
  -- 191 known bytes, at whichever places, with just one codeword agree
  pub fix : (known : List Bool) (row : List ℕ) → IsRow 255 row → known_count known ≡ 191 → (word : List ℕ) × OnlyIs (Agrees Codeword known row) word
  -- with fewer, two that differ agree
  pub leave_open : (known : List Bool) (row : List ℕ) → IsRow 255 row → known_count known < 191 → TwoAre (Agrees Codeword known row)
  -- with as many or more, one at most
  pub at_most_one : (known : List Bool) (row one other : List ℕ) → IsRow 255 row → 191 ≤ known_count known
      → Agrees Codeword known row one → Agrees Codeword known row other → one ≡ other
  -- two codewords that differ, differ at 65 places or more
  pub distances : (one other : List ℕ) → Codeword one → Codeword other → one ≢ other → 65 ≤ distance one other
