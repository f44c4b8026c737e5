-- What the bytes of a trace tell: lines of JSON, or one array.
use Rattle.std.specs.Prelude.{◌≡◌, ℕ, ◌+◌, ◌==◌, Bool, false, if◌then◌else◌, List, [], ◌∷◌, Option, None, Some, Result, Ok, Err, option_and_then}
use Rattle.serde_json.specs.Data.{Data, Items}
use Rattle.serde_json.specs.Find.{as_array}
use Rattle.history_reading.specs.History.{lines_of}
use Rattle.trace_reading.specs.declared.want.Want.{Want}
use Rattle.trace_reading.specs.declared.want.Want.TheVariants as want
use Rattle.trace_reading.specs.declared.want.Stop.{Stop}
use Rattle.trace_reading.specs.declared.want.Stop.TheVariants as stops
use Rattle.trace_reading.specs.declared.trace.TraceFault.{TraceFault}
use Rattle.trace_reading.specs.declared.trace.TraceFault.TheVariants as fault
use Rattle.trace_reading.specs.Json.{read_json}
use Rattle.trace_reading.specs.Recording.{Recorded, nothing_recorded}
use Rattle.trace_reading.specs.Steps.{◌>>=◌, each_from, given, in_order}
use Rattle.trace_reading.specs.Events.{event_step}

-- which line wants what
pub record Wanted : Type 0 where
  pub line : ℕ
  pub want : Want

-- at this line
abbrev pub at_line : ℕ → Result Recorded Want → Result Recorded Wanted
at_line line (Ok r) = Ok r
at_line line (Err w) = Err (record { line = line; want = w })

-- one line of JSON; a line of no bytes tells nothing
abbrev pub line_step : Recorded → ℕ → List ℕ → Result Recorded Want
line_step r line [] = Ok r
line_step r line (b ∷ bs) = given want.Json (read_json (b ∷ bs)) >>= event_step r line

-- the line behind so many others
abbrev pub line_behind : Recorded → ℕ → List ℕ → Result Recorded Wanted
line_behind r before line = at_line (before + 1) (line_step r (before + 1) line)

-- the object behind so many others of an array
abbrev pub object_behind : Recorded → ℕ → Data → Result Recorded Wanted
object_behind r before d = at_line (before + 1) (event_step r (before + 1) d)

abbrev pub objects_in : Recorded → Option Items → Result Recorded Wanted
objects_in r None = Err (record { line = 0; want = want.Json })
objects_in r (Some ds) = each_from object_behind r 0 (in_order ds)

abbrev pub objects_of : Recorded → Option Data → Result Recorded Wanted
objects_of r d = objects_in r (option_and_then as_array d)

-- bytes that begin with a bracket are one array
abbrev pub is_array : List ℕ → Bool
is_array [] = false
is_array (b ∷ bs) = b == 91

-- what the bytes tell, or which line wants what first: lines and the objects of an array are counted from 1, and line 0
-- stands for bytes that begin with a bracket and are no array
abbrev pub trace_of : List ℕ → Result Recorded Wanted
trace_of bytes = if is_array bytes then objects_of nothing_recorded (read_json bytes) else each_from line_behind nothing_recorded 0 (lines_of bytes)

-- why a line was not read
abbrev pub fault_at : ℕ → Stop → TraceFault
fault_at line (stops.Wants w) = fault.At line w
fault_at line stops.NoMemory = fault.NoMemory

-- why bytes were not read: the first line that wants something, unless memory was refused
abbrev pub IsFaultOf : Result Recorded Wanted → TraceFault → Type 0
IsFaultOf found (fault.At line w) = found ≡ Err (record { line = line; want = w })
IsFaultOf found fault.NoMemory = Unit {0}

-- the step left this recorded, or is at fault
abbrev pub LeavesAt : {A : Type 0} → Result Recorded Wanted → Recorded → Result A TraceFault → Type 0
LeavesAt step new (Ok _) = step ≡ Ok new
LeavesAt step new (Err why) = IsFaultOf step why
