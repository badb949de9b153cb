-- A stream that is read from an input, a window of it at a time.
use Rattle.std.specs.Prelude.{ℕ, Bool, false, List, [], drop, Option, Some, None}
use Rattle.stream.specs.declared.cutting.Cut.{Cut}
use Rattle.stream.specs.declared.cutting.Cut.TheVariants.{Piece, End}

pub record Held : Type 0 where
  -- what was read, and not let go of
  pub bytes : List ℕ
  -- whether the input has no more
  pub ended : Bool
  -- how many pieces may still be cut
  pub left : ℕ

-- nothing was read of the stream
abbrev pub unread : Held
unread = record { bytes = []; ended = false; left = 20000 }

-- so many bytes are let go of at the front
abbrev pub released : (count : ℕ) → Held → Held
released count h = record { bytes = drop count h.bytes; ended = h.ended; left = h.left }

-- what a size, or none, tells of the piece at the front
abbrev pub told_by : Option ℕ → Cut
told_by (Some size) = Piece size
told_by None = End
