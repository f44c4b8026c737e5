-- What an operation's array makes of what was recorded before it.
use Rattle.std.specs.Prelude.{ℕ, is_some, if◌then◌else◌, List, Option, None, Some, Result, Ok, Err, option_and_then, length}
use Rattle.serde_json.specs.Data.{Data, Items}
use Rattle.serde_json.specs.Find.{at, as_null, as_str, as_number, as_array, as_u64}
use Rattle.trace_reading.specs.declared.want.Want.{Want}
use Rattle.trace_reading.specs.declared.want.Want.TheVariants as want
use Rattle.trace_reading.specs.declared.operation.Form.{Form}
use Rattle.trace_reading.specs.declared.operation.Form.TheVariants as form
use Rattle.trace_reading.specs.declared.operation.Operation.{Operation}
use Rattle.trace_reading.specs.declared.operation.Operation.TheVariants as operations
use Rattle.trace_reading.specs.Names.{name_of, number_of}
use Rattle.trace_reading.specs.Recording.{Recorded, with_name, with_listed, with_operation}
use Rattle.trace_reading.specs.Steps.{◌>>=◌, each_from, given, in_order}
use Rattle.trace_reading.specs.Words.{form_of}

-- the number of the name, which is noted
abbrev pub numbered : Recorded → Want → Option (List ℕ) → Result (ℕ × Recorded) Want
numbered r w None = Err w
numbered r w (Some name) = Ok (number_of name r.names, with_name name r)

-- the number of the name that the value is
abbrev pub named : Recorded → Want → Option Data → Result (ℕ × Recorded) Want
named r w d = numbered r w (option_and_then name_of d)

abbrev pub some_whole : Want → Option ℕ → Result (Option ℕ) Want
some_whole w None = Err w
some_whole w (Some n) = Ok (Some n)

-- a whole number, which may be left out or null
abbrev pub whole_or_none : Want → Option Data → Result (Option ℕ) Want
whole_or_none w None = Ok None
whole_or_none w (Some d) = if is_some (as_null d) then Ok None else some_whole w (option_and_then as_u64 (as_number d))

abbrev pub form_in : ℕ → Option Data → Result Form Want
form_in place d = given (want.Function place) (option_and_then form_of (option_and_then as_str d))

-- a value that the read at this place listed is noted
abbrev pub listed_step : ℕ → Recorded → ℕ → Data → Result Recorded Want
listed_step place r member d = named r (want.Listed place member) (Some d) >>= λ found. Ok (with_listed found.0 found.1)

abbrev pub one_answer : Recorded → ℕ → ℕ → Data → Option Data → Result (Operation × Recorded) Want
one_answer r place key d version =
    named r (want.Answer place) (Some d) >>= λ found. whole_or_none (want.Version place) version >>= λ told. Ok (operations.Read key (Some found.0) told, found.1)

abbrev pub list_of : Recorded → ℕ → ℕ → Items → Result (Operation × Recorded) Want
list_of r place key ds = each_from (listed_step place) r 0 (in_order ds) >>= λ after. Ok (operations.ReadList key (length r.listed) (length after.listed), after)

abbrev pub answer_in : Recorded → ℕ → ℕ → Data → Option Data → Option Items → Result (Operation × Recorded) Want
answer_in r place key d version None = one_answer r place key d version
answer_in r place key d version (Some ds) = list_of r place key ds

-- a read of the key: its third member is null or left out, an array of names, or a name, and a fourth one the version of that
abbrev pub answer_of : Recorded → ℕ → ℕ → Option Data → Option Data → Result (Operation × Recorded) Want
answer_of r place key None version = Ok (operations.Read key None None, r)
answer_of r place key (Some d) version = if is_some (as_null d) then Ok (operations.Read key None None, r) else answer_in r place key d version (as_array d)

-- a write of the key: its third member is a name, and a fourth one its version
abbrev pub write_of : Recorded → ℕ → ℕ → Option Data → Option Data → Result (Operation × Recorded) Want
write_of r place key d version =
    named r (want.Written place) d >>= λ found. whole_or_none (want.Version place) version >>= λ told. Ok (operations.Write key found.0 told, found.1)

abbrev pub append_of : Recorded → ℕ → ℕ → Option Data → Result (Operation × Recorded) Want
append_of r place key d = named r (want.Written place) d >>= λ found. Ok (operations.Append key found.0, found.1)

abbrev pub operation_of : Form → Recorded → ℕ → ℕ → Data → Result (Operation × Recorded) Want
operation_of form.Read r place key d = answer_of r place key (at 2 d) (at 3 d)
operation_of form.Write r place key d = write_of r place key (at 2 d) (at 3 d)
operation_of form.Append r place key d = append_of r place key (at 2 d)

-- the operation at this place of its event
abbrev pub operation_step : Recorded → ℕ → Data → Result Recorded Want
operation_step r place d =
    form_in place (at 0 d) >>= λ which. named r (want.Key place) (at 1 d) >>= λ key.
    operation_of which key.1 place key.0 d >>= λ made. Ok (with_operation made.0 made.1)
