-- Reading for split stores keeps ticks in their bounds.
use Rattle.std.proofs.Common.{◌≡◌, ℕ, ◌+◌, ◌≤◌, nat_lt, nat_le, Bool, true, false, not, if◌then◌else◌, List, [], ◌∷◌, ◌++◌, Option, Some, None, Result, Ok, Err, IfOk, length, refl, subst}
use Rattle.std.specs.List.{list_all}
use Rattle.std.specs.Str.Lines.{lines}
use Rattle.std.proofs.lemmas.Bool.{leb-true}
use Rattle.std.proofs.lemmas.List.Elements.{All-nil, All-push}
use Rattle.stamp_base.specs.declared.limits.TheConstants.{BYTE_LIMIT, LINE_LIMIT}
use Rattle.history_book.specs.declared.item.Actor.{Actor}
use Rattle.script_data.specs.Data.{ScriptData}
use Rattle.script_data.specs.declared.line.Line.{Line}
use Rattle.session_script.specs.declared.cause.ScriptCause.{ScriptCause}
use Rattle.session_script.specs.declared.cause.ScriptCause.TheVariants.{TooManyLines, BadByte}
use Rattle.session_script.specs.declared.form.SetupForm.{SetupForm}
use Rattle.session_script.specs.declared.form.VerbForm.{VerbForm}
use Rattle.session_script.specs.declared.form.VerbForm.TheVariants.{Tick, Take, Renew, Crash, Extend, Hold, Free, Accept, Decide, Put, Answer, Begin, Commit, Submit, AskBegin, AskCommit, Write, Read, Fetch, Collect, Abort, Heal, Vanish, Step, Finish, Sweep, OpenSweep, SweepStep, SweepFinish, Post, Await}
use Rattle.session_script.specs.declared.mode.Mode.TheVariants.{Split}
use Rattle.session_script.specs.Arguments.{actor_of, number_of}
use Rattle.session_script.specs.Checked.{number_within, number_at, start_at, node_at, session_at, target_at, key_at, value_at, stage_at, name_at}
use Rattle.session_script.specs.Grammar.{named, setup_forms}
use Rattle.session_script.specs.Results.{◌>>=◌, unless}
use Rattle.session_script.specs.Verbs.{form_of, verb_of, verb_at}
use Rattle.session_script.specs.Words.{is_plain, is_silent, words_of, LineWords, line_words}
use Rattle.session_script.specs.Names.{name_objection}
use Rattle.session_script.specs.Script.{SoFar, BadLine, script_from, after_line, after_words, opened_line, setup_line, actor_line, after_setting, after_telling, or_bad_line, nothing_read}
use Rattle.session_script.specs.Settings.{setting_of, objection}
use Rattle.split_driver.specs.Runs.{RisesInBounds}
use Rattle.split_driver.specs.Splits.{MaySplit, SplitScriptsMaySplit}

-- ---- answers
bound : {A B : Type 0} (x : Result A ScriptCause) (f : A → Result B ScriptCause) (P : A → Type 0) (Q : B → Type 0) → IfOk x P → ((a : A) → P a → IfOk (f a) Q) → IfOk (x >>= f) Q
bound (Ok a) f P Q holds further = further a holds
bound (Err cause) f P Q holds further = tt

always : {A B : Type 0} (x : Result A ScriptCause) (f : A → Result B ScriptCause) (Q : B → Type 0) → ((a : A) → IfOk (f a) Q) → IfOk (x >>= f) Q
always (Ok a) f Q further = further a
always (Err cause) f Q further = tt

unless_so : {A : Type 0} (b : Bool) (cause : ScriptCause) (rest : Result A ScriptCause) (P : A → Type 0) → (b ≡ false → IfOk rest P) → IfOk (if b then Err cause else rest) P
unless_so true cause rest P holds = tt
unless_so false cause rest P holds = holds refl

-- ---- verbs
within : (least most n : ℕ) → (b c : Bool) → nat_le least n ≡ b → nat_le n most ≡ c → IfOk (number_within least most (Some n)) (λ m. (least ≤ m) × (m ≤ most))
within least most n true true low high = rw (low, high) (leb-true least n low, leb-true n most high)
within least most n true false low high = rw (low, high) tt
within least most n false c low high = rw low tt

number_fits : (least most : ℕ) (read : Option ℕ) → IfOk (number_within least most read) (λ n. (least ≤ n) × (n ≤ most))
number_fits least most None = tt
number_fits least most (Some n) = within least most n (nat_le least n) (nat_le n most) refl refl

number_at_fits : (least most : ℕ) (word : List ℕ) → IfOk (number_at least most word) (λ n. (least ≤ n) × (n ≤ most))
unfolding number_at
number_at_fits least most word = number_fits least most (number_of word)

verb_fits : (nodes : ℕ) (form : VerbForm) (words : LineWords) → IfOk (verb_of nodes form words) RisesInBounds
verb_fits nodes Tick words = bound (number_at 1 1000000 words.third) _ (λ by. (1 ≤ by) × (by ≤ 1000000)) RisesInBounds (number_at_fits 1 1000000 words.third) (λ by is. is)
verb_fits nodes Take words = tt
verb_fits nodes Renew words = tt
verb_fits nodes Crash words = tt
verb_fits nodes Extend words = tt
verb_fits nodes Hold words = always (stage_at words.third) _ _ (λ stage. tt)
verb_fits nodes Free words = always (stage_at words.third) _ _ (λ stage. tt)
verb_fits nodes Accept words = always (session_at words.third) _ _ (λ session. tt)
verb_fits nodes Decide words = always (session_at words.third) _ _ (λ session. tt)
verb_fits nodes Put words = always (session_at words.third) _ _ (λ session. tt)
verb_fits nodes Answer words = always (session_at words.third) _ _ (λ session. tt)
verb_fits nodes Begin words = always (target_at nodes words.third) _ _ (λ to. tt)
verb_fits nodes Commit words = always (target_at nodes words.third) _ _ (λ to. tt)
verb_fits nodes Submit words = always (target_at nodes words.third) _ _ (λ to. tt)
verb_fits nodes AskBegin words = always (node_at nodes words.third) _ _ (λ node. tt)
verb_fits nodes AskCommit words = always (node_at nodes words.third) _ _ (λ node. tt)
verb_fits nodes Write words = always (key_at words.third) _ _ (λ key. always (value_at words.fourth) _ _ (λ value. tt))
verb_fits nodes Read words = always (key_at words.third) _ _ (λ key. tt)
verb_fits nodes Fetch words = always (key_at words.third) _ _ (λ key. tt)
verb_fits nodes Collect words = tt
verb_fits nodes Abort words = tt
verb_fits nodes Heal words = tt
verb_fits nodes Vanish words = tt
verb_fits nodes Step words = tt
verb_fits nodes Finish words = tt
verb_fits nodes Sweep words = always (node_at nodes words.third) _ _ (λ node. always (start_at words.fourth) _ _ (λ txn. tt))
verb_fits nodes OpenSweep words = always (node_at nodes words.third) _ _ (λ node. always (start_at words.fourth) _ _ (λ txn. tt))
verb_fits nodes SweepStep words = tt
verb_fits nodes SweepFinish words = tt
verb_fits nodes Post words = always (name_at words.third) _ _ (λ name. tt)
verb_fits nodes Await words = always (name_at words.third) _ _ (λ name. tt)

line_fits : (nodes : ℕ) (actor : Actor) (words : LineWords) → IfOk (verb_at Split nodes actor words) RisesInBounds
unfolding verb_at
line_fits nodes actor words = always (form_of Split actor words) _ _ (λ form. verb_fits nodes form words)

-- ---- lines
abbrev AllFit : SoFar → Type 0
AllFit so_far = MaySplit so_far.script

one_more : (script : ScriptData) (line : Line) → MaySplit script → RisesInBounds line.verb → MaySplit (record script { lines = script.lines ++ line ∷ [] })
one_more script line may now = record {
  ticks = All-push (λ (l : Line). RisesInBounds l.verb) script.lines line may.ticks now;
}

unless_fits : (cause : Option ScriptCause) (next : SoFar) → AllFit next → IfOk (unless cause next) AllFit
unless_fits None next all = all
unless_fits (Some cause) next all = tt

-- a setting leaves the lines
setup_fits : (so_far : SoFar) (form : SetupForm) (words : LineWords) → AllFit so_far → IfOk (setup_line so_far form words) AllFit
unfolding setup_line
setup_fits so_far form words all =
    always (setting_of so_far.script.setup form words) _ AllFit (λ setting.
    unless_fits (objection so_far.settings so_far.script setting) (after_setting so_far setting) (record { ticks = all.ticks }))

actor_fits : (so_far : SoFar) (number : ℕ) (actor : Actor) (words : LineWords) → AllFit so_far → IfOk (actor_line Split so_far number actor words) AllFit
unfolding actor_line
actor_fits so_far number actor words all =
    bound (verb_at Split so_far.script.setup.nodes actor words) _ RisesInBounds AllFit (line_fits so_far.script.setup.nodes actor words) (λ verb now.
    let line : Line = record { number = number; actor = actor; verb = verb } in
    unless_fits (name_objection so_far.posted verb) (after_telling so_far line) (one_more so_far.script line all now))

opened_fits : (so_far : SoFar) (number : ℕ) (words : LineWords) (form : Option SetupForm) (actor : Option Actor) → AllFit so_far → IfOk (opened_line Split so_far number words form actor) AllFit
opened_fits so_far number words (Some form) actor all = setup_fits so_far form words all
opened_fits so_far number words None (Some actor) all = actor_fits so_far number actor words all
opened_fits so_far number words None None all = tt

words_fit : (so_far : SoFar) (number : ℕ) (words : LineWords) → AllFit so_far → IfOk (after_words Split so_far number words) AllFit
unfolding after_words
words_fit so_far number words all = opened_fits so_far number words (named setup_forms words.first) (actor_of so_far.script.setup.nodes words.first) all

silent_or : (silent : Bool) (so_far : SoFar) (rest : Result SoFar ScriptCause) → AllFit so_far → IfOk rest AllFit → IfOk (if silent then Ok so_far else rest) AllFit
silent_or true so_far rest all further = all
silent_or false so_far rest all further = further

line_keeps : (so_far : SoFar) (number : ℕ) (line : List ℕ) → AllFit so_far → IfOk (after_line Split so_far number line) AllFit
unfolding after_line
line_keeps so_far number line all =
    silent_or (is_silent line) so_far _ all
    (unless_so (nat_le LINE_LIMIT so_far.counted) TooManyLines _ AllFit (λ few.
    unless_so (not (list_all is_plain line)) BadByte _ AllFit (λ plain. words_fit so_far number (line_words (words_of line)) all)))

-- ---- the script
rest_fits : (number : ℕ) (next : Result SoFar ScriptCause) (further : SoFar → Result ScriptData BadLine) → IfOk next AllFit → ((so_far : SoFar) → AllFit so_far → IfOk (further so_far) MaySplit) → IfOk (or_bad_line number next further) MaySplit
rest_fits number (Ok so_far) further all holds = holds so_far all
rest_fits number (Err cause) further all holds = tt

from_fits : (so_far : SoFar) (number : ℕ) (rest : List (List ℕ)) → AllFit so_far → IfOk (script_from Split so_far number rest) MaySplit
unfolding script_from
from_fits so_far number [] all = all
from_fits so_far number (line ∷ rest) all =
    rest_fits number (after_line Split so_far number line) _ (line_keeps so_far number line all) (λ next next_fits. from_fits next (number + 1) rest next_fits)

long_or : (too_long : Bool) (bad : BadLine) (script : Result ScriptData BadLine) → IfOk script MaySplit → IfOk (if too_long then Err bad else script) MaySplit
long_or true bad script all = tt
long_or false bad script all = all

none_at_first : AllFit nothing_read
none_at_first = record {
  ticks = All-nil (λ (l : Line). RisesInBounds l.verb);
}

pub split_scripts_may_split : SplitScriptsMaySplit
split_scripts_may_split bytes script is =
    subst (λ (r : Result ScriptData BadLine). IfOk r MaySplit) is
    (long_or (nat_lt BYTE_LIMIT (length bytes)) _ (script_from Split nothing_read 1 (lines bytes)) (from_fits nothing_read 1 (lines bytes) none_at_first))
