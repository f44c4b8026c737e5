-- The script that bytes are, or their first bad line with its first cause.
use Rattle.std.specs.Prelude.{◌≡◌, ℕ, ◌+◌, nat_lt, nat_le, not, if◌then◌else◌, List, [], ◌∷◌, ◌++◌, Option, None, Some, Result, Ok, Err, length}
use Rattle.std.specs.List.{list_all}
use Rattle.std.specs.Str.Lines.{lines}
use Rattle.stamp_base.specs.declared.limits.TheConstants.{BYTE_LIMIT, LINE_LIMIT}
use Rattle.stamp_base.specs.SetupNumbers.{default_numbers}
use Rattle.stamp_base.specs.Setups.{numbers_of}
use Rattle.history_book.specs.declared.item.Actor.{Actor}
use Rattle.session_script.specs.declared.form.SetupForm.{SetupForm}
use Rattle.session_script.specs.declared.mode.Mode.{Mode}
use Rattle.script_data.specs.declared.line.Line.{Line}
use Rattle.session_script.specs.declared.script.Script.{Script}
use Rattle.session_script.specs.declared.setting.Setting.{Setting}
use Rattle.session_script.specs.declared.cause.ScriptCause.{ScriptCause}
use Rattle.session_script.specs.declared.cause.ScriptCause.TheVariants.{TooLong, TooManyLines, BadByte, UnknownActor}
use Rattle.session_script.specs.declared.fault.ScriptFault.{ScriptFault}
use Rattle.session_script.specs.declared.fault.ScriptFault.TheVariants.{At, NoMemory}
use Rattle.session_script.specs.Arguments.{actor_of}
use Rattle.session_script.specs.Grammar.{named, setup_forms}
use Rattle.session_script.specs.Names.{posted_after, name_objection}
use Rattle.session_script.specs.Results.{◌>>=◌, unless}
use Rattle.session_script.specs.Settings.{setting_of, with_setting, objection}
use Rattle.session_script.specs.Verbs.{verb_at}
use Rattle.session_script.specs.Words.{is_plain, is_silent, words_of, LineWords, line_words}
pub use Rattle.script_data.specs.Data.{ScriptData, IsSound}

-- the lists of a script that was read
abbrev pub data_of : Script → ScriptData
data_of script = record { setup = numbers_of script.setup; leads = script.leads.items; faults = script.faults.items; lines = script.lines.items }

-- the first bad line and its first cause; line 0 stands for the bytes as a whole
pub record BadLine : Type 0 where
  pub line : ℕ
  pub cause : ScriptCause

-- what was read so far: how many lines counted, what the setup lines set, the names that were posted, and the script
-- that the lines make
pub record SoFar : Type 0 where
  pub counted : ℕ
  pub settings : List Setting
  pub posted : List (List ℕ)
  pub script : ScriptData

-- what was read with one more setup line
abbrev pub after_setting : SoFar → Setting → SoFar
after_setting so_far setting = record {
  counted = so_far.counted + 1;
  settings = so_far.settings ++ setting ∷ [];
  posted = so_far.posted;
  script = with_setting so_far.script setting;
}

-- what was read with one more line of an actor
abbrev pub after_telling : SoFar → Line → SoFar
after_telling so_far line = record {
  counted = so_far.counted + 1;
  settings = so_far.settings;
  posted = posted_after so_far.posted line.verb;
  script = record so_far.script { lines = so_far.script.lines ++ line ∷ [] };
}

-- what was read once a setup line of the form has been read
unfoldable pub setup_line : SoFar → SetupForm → LineWords → Result SoFar ScriptCause
setup_line so_far form words = do
  setting ← setting_of so_far.script.setup form words
  unless (objection so_far.settings so_far.script setting) (after_setting so_far setting)

-- what was read once a line of the actor has been read
unfoldable pub actor_line : Mode → SoFar → ℕ → Actor → LineWords → Result SoFar ScriptCause
actor_line mode so_far number actor words = do
  verb ← verb_at mode so_far.script.setup.nodes actor words
  unless (name_objection so_far.posted verb) (after_telling so_far (record { number = number; actor = actor; verb = verb }))

-- a line begins with a setup word or an actor
abbrev pub opened_line : Mode → SoFar → ℕ → LineWords → Option SetupForm → Option Actor → Result SoFar ScriptCause
opened_line mode so_far number words (Some form) actor = setup_line so_far form words
opened_line mode so_far number words None (Some actor) = actor_line mode so_far number actor words
opened_line mode so_far number words None None = Err UnknownActor

-- what was read once the words of a line have been read
unfoldable pub after_words : Mode → SoFar → ℕ → LineWords → Result SoFar ScriptCause
after_words mode so_far number words = opened_line mode so_far number words (named setup_forms words.first) (actor_of so_far.script.setup.nodes words.first)

-- one more line: empty lines and comments say nothing and do not count
unfoldable pub after_line : Mode → SoFar → ℕ → List ℕ → Result SoFar ScriptCause
after_line mode so_far number line =
    if is_silent line then Ok so_far
    else if nat_le LINE_LIMIT so_far.counted then Err TooManyLines
    else if not (list_all is_plain line) then Err BadByte
    else after_words mode so_far number (line_words (words_of line))

abbrev pub or_bad_line : ℕ → Result SoFar ScriptCause → (SoFar → Result ScriptData BadLine) → Result ScriptData BadLine
or_bad_line number (Ok so_far) further = further so_far
or_bad_line number (Err cause) further = Err (record { line = number; cause = cause })

-- the script that the lines make from what was read so far, or the first bad line
unfoldable pub script_from : Mode → SoFar → ℕ → List (List ℕ) → Result ScriptData BadLine
script_from mode so_far number [] = Ok so_far.script
script_from mode so_far number (line ∷ rest) = or_bad_line number (after_line mode so_far number line) (λ next. script_from mode next (number + 1) rest)

-- what holds before the first line
abbrev pub nothing_read : SoFar
nothing_read = record { counted = 0; settings = []; posted = []; script = record { setup = default_numbers; leads = 0 ∷ 0 ∷ []; faults = []; lines = [] } }

-- the script of the bytes, or their first bad line
abbrev pub script_of : List ℕ → Mode → Result ScriptData BadLine
script_of bytes mode = if nat_lt BYTE_LIMIT (length bytes) then Err (record { line = 0; cause = TooLong }) else script_from mode nothing_read 1 (lines bytes)

-- a reader answered what the definition gives, unless memory was refused
abbrev pub ReadsScript : Result Script ScriptFault → Result ScriptData BadLine → Type 0
ReadsScript (Ok script) given = given ≡ Ok (data_of script)
ReadsScript (Err (At line cause)) given = given ≡ Err (record { line = line; cause = cause })
ReadsScript (Err NoMemory) given = Unit {0}
