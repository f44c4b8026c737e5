-- What an event's object makes of what was recorded before it.
use Rattle.std.specs.Prelude.{ℕ, Option, Result, Ok, codes, option_and_then, length}
use Rattle.serde_json.specs.Data.{Data, Items}
use Rattle.serde_json.specs.Find.{get, as_str, as_array, as_object}
use Rattle.trace_reading.specs.declared.want.Want.{Want}
use Rattle.trace_reading.specs.declared.want.Want.TheVariants as want
use Rattle.trace_reading.specs.declared.event.Kind.{Kind}
use Rattle.trace_reading.specs.declared.event.Moments.{Moments}
use Rattle.trace_reading.specs.Recording.{Recorded, with_event}
use Rattle.trace_reading.specs.Steps.{◌>>=◌, each_from, given, in_order}
use Rattle.trace_reading.specs.Words.{kind_of}
use Rattle.trace_reading.specs.Operations.{named, whole_or_none, operation_step}

abbrev pub kind_in : Option Data → Result Kind Want
kind_in d = given want.Type (option_and_then kind_of (option_and_then as_str d))

-- the moments that the event tells
abbrev pub moments_in : Data → Result Moments Want
moments_in d =
    whole_or_none want.Time (get (codes "time") d) >>= λ time. whole_or_none want.Began (get (codes "began") d) >>= λ began.
    whole_or_none want.Committing (get (codes "committing") d) >>= λ committing.
    Ok (record { time = time; began = began; committing = committing })

-- the event's operations, and behind them the event
abbrev pub operations_in : Recorded → ℕ → Kind → ℕ → Moments → Items → Result Recorded Want
operations_in r line kind process moments ds =
    each_from operation_step r 0 (in_order ds) >>= λ after. Ok (with_event (record {
      line = line;
      kind = kind;
      process = process;
      moments = moments;
      first = length r.operations;
      end = length after.operations;
    }) after)

-- the object of this number
abbrev pub event_step : Recorded → ℕ → Data → Result Recorded Want
event_step r line d =
    given want.Object (as_object d) >>= λ _. kind_in (get (codes "type") d) >>= λ kind.
    named r want.Process (get (codes "process") d) >>= λ process. moments_in d >>= λ moments.
    given want.Operations (option_and_then as_array (get (codes "value") d)) >>= operations_in process.1 line kind process.0 moments
