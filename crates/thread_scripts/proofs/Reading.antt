-- Reading for threads keeps all lines for threads.
use Rattle.std.proofs.Common.{ℕ, ◌+◌, nat_lt, nat_le, Bool, true, false, not, if◌then◌else◌, List, [], ◌∷◌, ◌++◌, Option, Some, None, Result, Ok, Err, IfOk, length, subst}
use Rattle.std.specs.List.{list_all}
use Rattle.std.specs.Str.Lines.{lines}
use Rattle.stamp_base.specs.declared.limits.TheConstants.{BYTE_LIMIT, LINE_LIMIT}
use Rattle.history_book.specs.declared.item.Actor.{Actor}
use Rattle.script_data.specs.Data.{ScriptData}
use Rattle.script_data.specs.declared.line.Line.{Line}
use Rattle.session_script.specs.declared.cause.ScriptCause.{ScriptCause}
use Rattle.session_script.specs.declared.cause.ScriptCause.TheVariants.{TooManyLines, BadByte}
use Rattle.session_script.specs.declared.form.SetupForm.{SetupForm}
use Rattle.session_script.specs.declared.mode.Mode.TheVariants.{Run}
use Rattle.session_script.specs.Arguments.{actor_of}
use Rattle.session_script.specs.Grammar.{named, setup_forms}
use Rattle.session_script.specs.Results.{unless}
use Rattle.session_script.specs.Verbs.{verb_at}
use Rattle.session_script.specs.Words.{is_plain, is_silent, words_of, LineWords, line_words}
use Rattle.session_script.specs.Names.{name_objection}
use Rattle.session_script.specs.Script.{SoFar, BadLine, script_from, after_line, after_words, opened_line, setup_line, actor_line, after_setting, after_telling, or_bad_line, nothing_read}
use Rattle.session_script.specs.Settings.{setting_of, objection}
use Rattle.turn_rules.specs.Told.{IsForThreads, AreForThreads}
use Rattle.thread_scripts.specs.Laws.{RunScriptsAreForThreads}
use Rattle.thread_scripts.proofs.Verbs.{bound, always, unless_so, line_fits}

abbrev Fits : SoFar → Type 0
Fits so_far = AreForThreads so_far.script.lines

one_more : (lines : List Line) (line : Line) → AreForThreads lines → IsForThreads line.verb → AreForThreads (lines ++ line ∷ [])
unfolding AreForThreads
one_more [] line all fits = (fits, tt)
one_more (first ∷ lines) line all fits = (all.0, one_more lines line all.1 fits)

unless_fits : (cause : Option ScriptCause) (next : SoFar) → Fits next → IfOk (unless cause next) Fits
unless_fits None next fits = fits
unless_fits (Some cause) next fits = tt

setup_fits : (so_far : SoFar) (form : SetupForm) (words : LineWords) → Fits so_far → IfOk (setup_line so_far form words) Fits
unfolding setup_line
setup_fits so_far form words fits =
    always (setting_of so_far.script.setup form words) _ Fits (λ setting. unless_fits (objection so_far.settings so_far.script setting) (after_setting so_far setting) fits)

actor_fits : (so_far : SoFar) (number : ℕ) (actor : Actor) (words : LineWords) → Fits so_far → IfOk (actor_line Run so_far number actor words) Fits
unfolding actor_line
actor_fits so_far number actor words fits =
    bound (verb_at Run so_far.script.setup.nodes actor words) _ IsForThreads Fits (line_fits so_far.script.setup.nodes actor words) (λ verb for_threads.
    let line : Line = record { number = number; actor = actor; verb = verb } in
    unless_fits (name_objection so_far.posted verb) (after_telling so_far line) (one_more so_far.script.lines line fits for_threads))

opened_fits : (so_far : SoFar) (number : ℕ) (words : LineWords) (form : Option SetupForm) (actor : Option Actor) → Fits so_far → IfOk (opened_line Run so_far number words form actor) Fits
opened_fits so_far number words (Some form) actor fits = setup_fits so_far form words fits
opened_fits so_far number words None (Some actor) fits = actor_fits so_far number actor words fits
opened_fits so_far number words None None fits = tt

words_fit : (so_far : SoFar) (number : ℕ) (words : LineWords) → Fits so_far → IfOk (after_words Run so_far number words) Fits
unfolding after_words
words_fit so_far number words fits = opened_fits so_far number words (named setup_forms words.first) (actor_of so_far.script.setup.nodes words.first) fits

silent_or : (silent : Bool) (so_far : SoFar) (rest : Result SoFar ScriptCause) → Fits so_far → IfOk rest Fits → IfOk (if silent then Ok so_far else rest) Fits
silent_or true so_far rest fits further = fits
silent_or false so_far rest fits further = further

line_keeps : (so_far : SoFar) (number : ℕ) (line : List ℕ) → Fits so_far → IfOk (after_line Run so_far number line) Fits
unfolding after_line
line_keeps so_far number line fits =
    silent_or (is_silent line) so_far _ fits
    (unless_so (nat_le LINE_LIMIT so_far.counted) TooManyLines _ Fits (λ few.
    unless_so (not (list_all is_plain line)) BadByte _ Fits (λ plain. words_fit so_far number (line_words (words_of line)) fits)))

-- ---- the script
abbrev LinesFit : ScriptData → Type 0
LinesFit script = AreForThreads script.lines

rest_fits : (number : ℕ) (next : Result SoFar ScriptCause) (further : SoFar → Result ScriptData BadLine) → IfOk next Fits → ((so_far : SoFar) → Fits so_far → IfOk (further so_far) LinesFit) → IfOk (or_bad_line number next further) LinesFit
rest_fits number (Ok so_far) further fits holds = holds so_far fits
rest_fits number (Err cause) further fits holds = tt

from_fits : (so_far : SoFar) (number : ℕ) (rest : List (List ℕ)) → Fits so_far → IfOk (script_from Run so_far number rest) LinesFit
unfolding script_from
from_fits so_far number [] fits = fits
from_fits so_far number (line ∷ rest) fits =
    rest_fits number (after_line Run so_far number line) _ (line_keeps so_far number line fits) (λ next next_fits. from_fits next (number + 1) rest next_fits)

long_or : (too_long : Bool) (bad : BadLine) (script : Result ScriptData BadLine) → IfOk script LinesFit → IfOk (if too_long then Err bad else script) LinesFit
long_or true bad script fits = tt
long_or false bad script fits = fits

none_at_first : AreForThreads []
unfolding AreForThreads
none_at_first = tt

pub run_scripts_are_for_threads : RunScriptsAreForThreads
run_scripts_are_for_threads bytes script is =
    subst (λ (r : Result ScriptData BadLine). IfOk r LinesFit) is
    (long_or (nat_lt BYTE_LIMIT (length bytes)) _ (script_from Run nothing_read 1 (lines bytes)) (from_fits nothing_read 1 (lines bytes) none_at_first))
