-- When a terminal's radio is needed again, by the section that was taken last.
use Rattle.std.specs.Prelude.{◌+◌, ◌*◌, cond, Option, Some, None, ◌==◌}
use Rattle.receiver.specs.declared.wake.Wake.{Wake}
use Rattle.receiver.specs.declared.wake.Wake.TheVariants.{At, EndOfService, Unknown}
use Rattle.table.specs.Bursts.{Latest}

-- unknown, if none was taken; no more, if its delta_t is 0; else so many times 10 ms after it came in
abbrev pub wake_of : Option Latest → Wake
wake_of (Some latest) = cond (latest.delta_t == 0) EndOfService (At (latest.arrival + 10 * latest.delta_t))
wake_of None = Unknown
