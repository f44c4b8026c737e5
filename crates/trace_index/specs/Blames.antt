-- How a step over what was recorded and its code go together.
use Rattle.std.specs.Prelude.{◌≡◌, Result, Ok, Err}
use Rattle.trace_index.specs.declared.fault.Fault.{Fault}
use Rattle.trace_index.specs.declared.fault.Fault.TheVariants as fault
use Rattle.trace_index.specs.Versions.{Blame}

-- the step blames this operation; of a step that memory was refused for nothing is said
abbrev pub Blames : {A : Type 0} → Result A Blame → Fault → Type 0
Blames step (fault.At txn member key value what) = step ≡ Err (record { txn = txn; member = member; key = key; value = value; what = what })
Blames step fault.NoMemory = Unit {0}

-- the step made this
abbrev pub Makes : {A : Type 0} → Result A Blame → Result A Fault → Type 0
Makes step (Ok a) = step ≡ Ok a
Makes step (Err why) = Blames step why

-- the step left this behind
abbrev pub Leaves : {A B : Type 0} → Result A Blame → A → Result B Fault → Type 0
Leaves step new (Ok _) = step ≡ Ok new
Leaves step new (Err why) = Blames step why
