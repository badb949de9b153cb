-- Where a read-out stops: at the first whole datagram that it comes to, or at its end.
use Rattle.std.specs.Prelude.{◌≡◌, ℕ, ◌+◌, ◌<◌, ◌≤◌, List, length}
use Rattle.reading.specs.declared.decisions.Decision.TheVariants.{Whole}
use Rattle.reading.specs.declared.stops.Stop.{Stop}
use Rattle.reading.specs.declared.stops.Stop.TheVariants.{Datagram, End}
use Rattle.reading.specs.Decisions.{decision_at}
use Rattle.reading.specs.Reading.{GoesOn}

-- from a place on it goes on to a whole datagram below the limit; or to the limit
abbrev pub StopsAt : (cells marks : List ℕ) → (from : ℕ) → Stop → Type 0
StopsAt cells marks from (Datagram address n) =
    GoesOn cells marks from address × (address < length cells) × (decision_at cells marks address ≡ Whole n) × (address + n ≤ length cells)
StopsAt cells marks from (End place) = GoesOn cells marks from place × (length cells ≤ place)
