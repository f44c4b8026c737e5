-- What the reader's mode keeps out of a script.
use Rattle.std.specs.Prelude.{◌≡◌, ℕ, List, Ok}
use Rattle.script_data.specs.Data.{ScriptData}
use Rattle.session_script.specs.declared.mode.Mode.TheVariants.{Run}
use Rattle.session_script.specs.Script.{script_of}
use Rattle.turn_rules.specs.Told.{AreForThreads}

-- the lines of a script that was read for threads are for threads
abbrev pub RunScriptsAreForThreads : Type 0
RunScriptsAreForThreads = (bytes : List ℕ) (script : ScriptData) → script_of bytes Run ≡ Ok script → AreForThreads script.lines
