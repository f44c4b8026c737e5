-- The greatest reading after a call that hands one in: where memory was refused it was not handed in.
use Rattle.std.specs.Prelude.{ℕ, max, Result, Err}
use Rattle.event_parts.specs.declared.stopped.Stopped.{Stopped}
use Rattle.event_parts.specs.declared.stopped.Stopped.TheVariants.{NoMemory}

abbrev pub seen_made : ℕ → ℕ → Result Unit Stopped → ℕ
seen_made seen reading (Err NoMemory) = seen
seen_made seen reading _ = max seen reading
