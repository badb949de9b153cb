-- A table as far as it is known: what stands in its cells, and what sections told of its end. What a burst and its two buffers
-- hold is seen as one.
use Rattle.std.specs.Prelude.{ℕ, Bool, false, Option, None}
use Rattle.geometry.specs.Ends.{limit_of}

pub record Table : Type 0 where
  -- R
  pub rows : ℕ
  -- the byte of a cell, or nothing where it is not known
  pub at : ℕ → Option ℕ
  -- the cells that sections carried, and of these the first bytes of datagrams
  pub received : ℕ → Bool
  pub starts : ℕ → Bool
  -- E and p, where a section told them
  pub end : Option ℕ
  pub padding : Option ℕ

-- as far as its datagrams are known to reach
abbrev pub limit : Table → ℕ
limit t = limit_of t.rows t.end t.padding

-- a table of which nothing is known yet
abbrev pub blank : (R : ℕ) → Table
blank R = record { rows = R; at = λ i. None; received = λ i. false; starts = λ i. false; end = None; padding = None }
