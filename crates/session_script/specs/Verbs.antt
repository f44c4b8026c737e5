-- What a line of an actor says.
use Rattle.std.specs.Prelude.{ℕ, ◌==◌, nat_lt, Bool, true, false, ◌&&◌, not, if◌then◌else◌, Option, None, Some, Result, Ok, Err}
use Rattle.history_book.specs.declared.item.Actor.{Actor}
use Rattle.session_script.specs.declared.form.VerbForm.{VerbForm}
use Rattle.session_script.specs.declared.form.VerbForm.TheVariants.{Tick, Take, Renew, Crash, Extend, Hold, Free, Accept, Decide, Put, Answer, Begin, Commit, Submit, AskBegin, AskCommit, Write, Read, Fetch, Collect, Abort, Heal, Vanish, Step, Finish, Sweep, OpenSweep, SweepStep, SweepFinish, Post, Await}
use Rattle.session_script.specs.declared.mode.Mode.{Mode}
use Rattle.session_script.specs.declared.mode.Mode.TheVariants.{Replay, Run, Split}
use Rattle.script_data.specs.declared.line.Verb.{Verb}
use Rattle.script_data.specs.declared.line.Verb.TheVariants as verbs
use Rattle.session_script.specs.declared.cause.ScriptCause.{ScriptCause}
use Rattle.session_script.specs.declared.cause.ScriptCause.TheVariants.{UnknownVerb, WrongNumberOfWords, ReplayOnly}
use Rattle.session_script.specs.Checked.{number_at, start_at, node_at, target_at, session_at, key_at, value_at, stage_at, name_at}
use Rattle.session_script.specs.Grammar.{named, verb_forms, verb_words, is_replay_only}
use Rattle.session_script.specs.Results.{◌>>=◌}
use Rattle.session_script.specs.Words.{LineWords}

-- the lines that a mode leaves to a replay: on threads those of single stages
abbrev pub is_left_to_replay : Mode → VerbForm → Bool
is_left_to_replay Replay form = false
is_left_to_replay Run form = is_replay_only form
is_left_to_replay Split form = false

-- the tests of an actor's line before its arguments, in their order
abbrev pub form_at : Mode → LineWords → Option VerbForm → Result VerbForm ScriptCause
form_at mode words None = Err UnknownVerb
form_at mode words (Some form) =
    if not (words.count == verb_words form) then Err WrongNumberOfWords
    else if is_left_to_replay mode form then Err ReplayOnly
    else Ok form

-- the form of an actor's line, which names no verb where the actor stands alone
unfoldable pub form_of : Mode → Actor → LineWords → Result VerbForm ScriptCause
form_of mode actor words =
    if nat_lt words.count 2 then Err WrongNumberOfWords
    else form_at mode words (named (verb_forms actor) words.second)

-- what a line of the form asks for, its arguments read from left to right
abbrev pub verb_of : ℕ → VerbForm → LineWords → Result Verb ScriptCause
verb_of nodes Tick words = number_at 1 1000000 words.third >>= (λ by. Ok (verbs.Tick by))
verb_of nodes Take words = Ok verbs.Take
verb_of nodes Renew words = Ok verbs.Renew
verb_of nodes Crash words = Ok verbs.Crash
verb_of nodes Extend words = Ok verbs.Extend
verb_of nodes Hold words = stage_at words.third >>= (λ stage. Ok (verbs.Hold stage))
verb_of nodes Free words = stage_at words.third >>= (λ stage. Ok (verbs.Free stage))
verb_of nodes Accept words = session_at words.third >>= (λ session. Ok (verbs.Accept session))
verb_of nodes Decide words = session_at words.third >>= (λ session. Ok (verbs.Decide session))
verb_of nodes Put words = session_at words.third >>= (λ session. Ok (verbs.Put session))
verb_of nodes Answer words = session_at words.third >>= (λ session. Ok (verbs.Answer session))
verb_of nodes Begin words = target_at nodes words.third >>= (λ target. Ok (verbs.Begin target))
verb_of nodes Commit words = target_at nodes words.third >>= (λ target. Ok (verbs.Commit target))
verb_of nodes Submit words = target_at nodes words.third >>= (λ target. Ok (verbs.Submit target))
verb_of nodes AskBegin words = node_at nodes words.third >>= (λ node. Ok (verbs.AskBegin node))
verb_of nodes AskCommit words = node_at nodes words.third >>= (λ node. Ok (verbs.AskCommit node))
verb_of nodes Write words = key_at words.third >>= (λ key. value_at words.fourth >>= (λ value. Ok (verbs.Write key value)))
verb_of nodes Read words = key_at words.third >>= (λ key. Ok (verbs.Read key))
verb_of nodes Fetch words = key_at words.third >>= (λ key. Ok (verbs.Fetch key))
verb_of nodes Collect words = Ok verbs.Collect
verb_of nodes Abort words = Ok verbs.Abort
verb_of nodes Heal words = Ok verbs.Heal
verb_of nodes Vanish words = Ok verbs.Vanish
verb_of nodes Step words = Ok verbs.Step
verb_of nodes Finish words = Ok verbs.Finish
verb_of nodes Sweep words = node_at nodes words.third >>= (λ node. start_at words.fourth >>= (λ txn. Ok (verbs.Sweep node txn)))
verb_of nodes OpenSweep words = node_at nodes words.third >>= (λ node. start_at words.fourth >>= (λ txn. Ok (verbs.OpenSweep node txn)))
verb_of nodes SweepStep words = Ok verbs.Step
verb_of nodes SweepFinish words = Ok verbs.Finish
verb_of nodes Post words = name_at words.third >>= (λ name. Ok (verbs.Post name))
verb_of nodes Await words = name_at words.third >>= (λ name. Ok (verbs.Await name))

-- what an actor's line asks for
unfoldable pub verb_at : Mode → ℕ → Actor → LineWords → Result Verb ScriptCause
verb_at mode nodes actor words = do
  form ← form_of mode actor words
  verb_of nodes form words
