-- What the reading of one more line makes of what was read so far.
use Rattle.std.specs.Prelude.{◌≡◌, ℕ, Result, Ok, Err}
use Rattle.session_script.specs.declared.cause.ScriptCause.{ScriptCause}
use Rattle.session_script.specs.declared.fault.ScriptFault.{ScriptFault}
use Rattle.session_script.specs.declared.fault.ScriptFault.TheVariants.{At, NoMemory}
use Rattle.session_script.specs.declared.read_so_far.ReadSoFar.{ReadSoFar}
use Rattle.session_script.specs.Script.{SoFar, data_of}

abbrev pub so_far : ReadSoFar → SoFar
so_far reading = record {
  counted = reading.counted;
  settings = reading.settings.items;
  posted = reading.posted;
  script = data_of reading.script;
}

-- what was read after the line, or the line's cause, unless memory was refused
abbrev pub ReadsLine : Result (Unit {0}) ScriptFault → ℕ → Result SoFar ScriptCause → SoFar → Type 0
ReadsLine (Ok done) number given new = given ≡ Ok new
ReadsLine (Err (At line cause)) number given new = (line ≡ number) × (given ≡ Err cause)
ReadsLine (Err NoMemory) number given new = Unit {0}
