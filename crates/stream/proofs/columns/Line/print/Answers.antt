use Rattle.std.proofs.KnownBytes.{Appends-trans}
use Rattle.stream.proofs.columns.Line.print.Goals as goal

pub returns : goal.returns
returns g c = rw (← c.as_bytes.ensures.text) (Appends-trans _ _ _ _ _ c.in_ok-write_all.ensures.bytes c.in_ok-write_all-2.ensures.bytes)
