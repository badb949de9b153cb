-- What cannot be obeyed.
use Rattle.std.specs.Prelude.{◌≡◌, ◌+◌, ◌<◌, length, vec_items, None}
use Rattle.program_lines.specs.declared.calls.Request.{Request}
use Rattle.program_lines.specs.declared.calls.Request.TheVariants.{Take, Close, Open, Put}
use Rattle.bursttake.specs.declared.Receiver.{Receiver}

-- only a burst that was started takes sections or is closed, only one that was closed is read out, and only marks that are there are put
abbrev pub CannotObey : Receiver → Request → Type 0
CannotObey receiver (Take arrival section) = receiver.open ≡ None
CannotObey receiver (Close scratch names) = receiver.open ≡ None
CannotObey receiver (Open count) = receiver.closed ≡ None
CannotObey receiver (Put mark from count) = length (vec_items receiver.buffers.marks) < from + count
CannotObey receiver request = ⊥
