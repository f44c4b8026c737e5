-- The arguments of a line, each with the cause where it is wrong.
use Rattle.std.specs.Prelude.{ℕ, ◌^◌, nat_le, ◌&&◌, if◌then◌else◌, List, Option, None, Some, Result, Ok, Err}
use Rattle.std.specs.Str.{bytes_eq}
use Rattle.stamp_base.specs.SetupNumbers.{bounds_of}
use Rattle.stamp_base.specs.declared.setup_number.SetupFlag.{SetupFlag}
use Rattle.stamp_base.specs.declared.setup_number.SetupNumber.{SetupNumber}
use Rattle.stamp_base.specs.declared.stage.Stage.{Stage}
use Rattle.stamp_base.specs.declared.stores.Store.{Store}
use Rattle.port_io.specs.declared.weather.Fate.{Fate}
use Rattle.script_data.specs.declared.line.Target.{Target}
use Rattle.session_script.specs.declared.cause.ScriptCause.{ScriptCause}
use Rattle.session_script.specs.declared.cause.ScriptCause.TheVariants.{BadNumber, OutOfRange, UnknownNode, BadSession, BadKey, BadValue, UnknownStage, UnknownStore, UnknownKind, BadName}
use Rattle.session_script.specs.Arguments.{number_of, node_of, target_of, session_of, key_of, value_of, name_of}
use Rattle.session_script.specs.Grammar.{named, stages, stores, kinds, flag_word}
use Rattle.session_script.specs.Results.{or_cause}

abbrev pub number_within : ℕ → ℕ → Option ℕ → Result ℕ ScriptCause
number_within least most None = Err BadNumber
number_within least most (Some n) = if nat_le least n && nat_le n most then Ok n else Err OutOfRange

-- a number from the least to the most
unfoldable pub number_at : ℕ → ℕ → List ℕ → Result ℕ ScriptCause
number_at least most word = number_within least most (number_of word)

-- a number of a setup, within its bounds
abbrev pub setup_number_at : SetupNumber → List ℕ → Result ℕ ScriptCause
setup_number_at number word = number_at (bounds_of number).least (bounds_of number).most word

-- a flag of a setup, by the word that turns it on
unfoldable pub flag_at : SetupFlag → List ℕ → Result SetupFlag ScriptCause
flag_at flag word = if bytes_eq word (flag_word flag) then Ok flag else Err UnknownKind

-- the start of a transaction
unfoldable pub start_at : List ℕ → Result ℕ ScriptCause
start_at word = number_at 1 (2 ^ 62) word

unfoldable pub node_at : ℕ → List ℕ → Result ℕ ScriptCause
node_at nodes word = or_cause UnknownNode (node_of nodes word)

-- where a line is sent
unfoldable pub target_at : ℕ → List ℕ → Result Target ScriptCause
target_at nodes word = or_cause UnknownNode (target_of nodes word)

unfoldable pub session_at : List ℕ → Result ℕ ScriptCause
session_at word = or_cause BadSession (session_of word)

unfoldable pub key_at : List ℕ → Result ℕ ScriptCause
key_at word = or_cause BadKey (key_of word)

unfoldable pub value_at : List ℕ → Result (List ℕ) ScriptCause
value_at word = or_cause BadValue (value_of word)

unfoldable pub stage_at : List ℕ → Result Stage ScriptCause
stage_at word = or_cause UnknownStage (named stages word)

unfoldable pub store_at : List ℕ → Result Store ScriptCause
store_at word = or_cause UnknownStore (named stores word)

-- how a store call fails
unfoldable pub kind_at : List ℕ → Result Fate ScriptCause
kind_at word = or_cause UnknownKind (named kinds word)

unfoldable pub name_at : List ℕ → Result (List ℕ) ScriptCause
name_at word = or_cause BadName (name_of word)
