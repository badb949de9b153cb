-- What bursts, read-outs and datagrams hold, as contracts see it.
use Rattle.std.specs.Prelude.{Option, option_map}
use Rattle.receiver.specs.declared.numbers.Latest.{Latest}
use Rattle.receiver.specs.declared.numbers.ClosedNumbers.{ClosedNumbers}
use Rattle.receiver.specs.declared.numbers.Numbers.{Numbers}
use Rattle.receiver.specs.declared.readout.Datagram.{Datagram}
use Rattle.receiver.specs.declared.readout.ReadOut.{ReadOut}
use Rattle.table.specs.Bursts.{Latest as LatestSeen, Numbers as NumbersSeen, ClosedNumbers as ClosedNumbersSeen}
use Rattle.reading.specs.Reading.{ReadOut as ReadOutSeen, Placed}

abbrev pub latest_of : Latest → LatestSeen
latest_of l = record { arrival = l.arrival; delta_t = l.delta_t }

abbrev pub seen_latest : Option Latest → Option LatestSeen
seen_latest latest = option_map latest_of latest

abbrev pub numbers_of : Numbers → NumbersSeen
numbers_of n = record {
  rows = n.rows.count;
  end = n.told.end;
  padding = n.told.padding_columns;
  latest = seen_latest n.latest;
}

abbrev pub closed_numbers_of : ClosedNumbers → ClosedNumbersSeen
closed_numbers_of n = record { rows = n.rows.count; limit = n.limit }

-- whatever the row code in its type
abbrev pub read_out_of : {C : Type 0} → ReadOut C → ReadOutSeen
read_out_of r = record { cells = r.cells.now; marks = r.marks.now; place = r.place }

abbrev pub placed_of : Datagram → Placed
placed_of d = (d.address, d.bytes.now)
