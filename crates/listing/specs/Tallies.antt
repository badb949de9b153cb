-- How many sections a listing has, and of what kind.
use Rattle.std.specs.Prelude.{ℕ, ◌+◌, ◌-◌, ◌^◌, min, List, ◌++◌, Option, Some, None, codes, decimal}
use Rattle.section.specs.declared.kinds.Kind.{Kind}
use Rattle.section.specs.declared.kinds.Kind.TheVariants.{Datagram, Check}
use Rattle.listing.specs.declared.tallies.Tally.{Tally}

-- nothing is counted
abbrev pub empty_tally : Tally
empty_tally = record { sections = 0; datagrams = 0; checks = 0; refused = 0 }

-- one more, unless the count is at the top
abbrev pub one_more : ℕ → ℕ
one_more n = min (n + 1) (2 ^ 64 - 1)

-- one section more, which counts for its kind
abbrev pub counted : Option Kind → Tally → Tally
counted (Some Datagram) t = record { sections = one_more t.sections; datagrams = one_more t.datagrams; checks = t.checks; refused = t.refused }
counted (Some Check) t = record { sections = one_more t.sections; datagrams = t.datagrams; checks = one_more t.checks; refused = t.refused }
counted None t = record { sections = one_more t.sections; datagrams = t.datagrams; checks = t.checks; refused = one_more t.refused }

-- the last line
abbrev pub summary_of : Tally → List ℕ
summary_of t =
    codes "sections " ++ decimal t.sections ++ codes " datagram " ++ decimal t.datagrams
    ++ codes " check " ++ decimal t.checks ++ codes " refused " ++ decimal t.refused
