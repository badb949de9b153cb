-- The last line of a listing of a burst's datagrams.
use Rattle.std.specs.Prelude.{ℕ, List, ◌++◌}
use Rattle.stream.specs.Columns.{right_aligned}
use Rattle.listing.specs.declared.bursts.Totals.{Totals}

abbrev pub totals_of : Totals → List ℕ
totals_of t =
    right_aligned 6 t.taken ++ right_aligned 6 t.refused
    ++ right_aligned 6 t.filled ++ right_aligned 6 t.torn ++ right_aligned 6 t.open
