-- A line that is read for threads has a verb for threads.
use Rattle.std.proofs.Common.{◌≡◌, ℕ, ◌==◌, nat_lt, Bool, true, false, not, if◌then◌else◌, Option, Some, None, Result, Ok, Err, IfOk, refl}
use Rattle.history_book.specs.declared.item.Actor.{Actor}
use Rattle.session_script.specs.declared.cause.ScriptCause.{ScriptCause}
use Rattle.session_script.specs.declared.cause.ScriptCause.TheVariants.{WrongNumberOfWords, ReplayOnly}
use Rattle.session_script.specs.declared.form.VerbForm.{VerbForm}
use Rattle.session_script.specs.declared.form.VerbForm.TheVariants.{Tick, Take, Renew, Crash, Extend, Hold, Free, Accept, Decide, Put, Answer, Begin, Commit, Submit, AskBegin, AskCommit, Write, Read, Fetch, Collect, Abort, Heal, Vanish, Step, Finish, Sweep, OpenSweep, SweepStep, SweepFinish, Post, Await}
use Rattle.session_script.specs.declared.mode.Mode.TheVariants.{Run}
use Rattle.session_script.specs.Checked.{number_at, start_at, node_at, target_at, key_at, value_at, stage_at, name_at}
use Rattle.session_script.specs.Grammar.{named, verb_forms, verb_words, is_replay_only}
use Rattle.session_script.specs.Results.{◌>>=◌}
use Rattle.session_script.specs.Verbs.{form_at, form_of, verb_of, verb_at}
use Rattle.session_script.specs.Words.{LineWords}
use Rattle.turn_rules.specs.Told.{IsForThreads}

-- ---- answers
pub bound : {A B : Type 0} (x : Result A ScriptCause) (f : A → Result B ScriptCause) (P : A → Type 0) (Q : B → Type 0) → IfOk x P → ((a : A) → P a → IfOk (f a) Q) → IfOk (x >>= f) Q
bound (Ok a) f P Q holds further = further a holds
bound (Err cause) f P Q holds further = tt

pub always : {A B : Type 0} (x : Result A ScriptCause) (f : A → Result B ScriptCause) (Q : B → Type 0) → ((a : A) → IfOk (f a) Q) → IfOk (x >>= f) Q
always (Ok a) f Q further = further a
always (Err cause) f Q further = tt

pub unless_so : {A : Type 0} (b : Bool) (cause : ScriptCause) (rest : Result A ScriptCause) (P : A → Type 0) → (b ≡ false → IfOk rest P) → IfOk (if b then Err cause else rest) P
unless_so true cause rest P holds = tt
unless_so false cause rest P holds = holds refl

-- ---- the verb
verb_fits : (nodes : ℕ) (form : VerbForm) (words : LineWords) → is_replay_only form ≡ false → IfOk (verb_of nodes form words) IsForThreads
verb_fits nodes Tick words only = always (number_at 1 1000000 words.third) _ _ (λ by. tt)
verb_fits nodes Take words only = tt
verb_fits nodes Renew words only = tt
verb_fits nodes Crash words only = tt
verb_fits nodes Extend words only = absurd (cc)
verb_fits nodes Hold words only = always (stage_at words.third) _ _ (λ stage. tt)
verb_fits nodes Free words only = always (stage_at words.third) _ _ (λ stage. tt)
verb_fits nodes Accept words only = absurd (cc)
verb_fits nodes Decide words only = absurd (cc)
verb_fits nodes Put words only = absurd (cc)
verb_fits nodes Answer words only = absurd (cc)
verb_fits nodes Begin words only = always (target_at nodes words.third) _ _ (λ target. tt)
verb_fits nodes Commit words only = always (target_at nodes words.third) _ _ (λ target. tt)
verb_fits nodes Submit words only = always (target_at nodes words.third) _ _ (λ target. tt)
verb_fits nodes AskBegin words only = absurd (cc)
verb_fits nodes AskCommit words only = absurd (cc)
verb_fits nodes Write words only = always (key_at words.third) _ _ (λ key. always (value_at words.fourth) _ _ (λ value. tt))
verb_fits nodes Read words only = always (key_at words.third) _ _ (λ key. tt)
verb_fits nodes Fetch words only = always (key_at words.third) _ _ (λ key. tt)
verb_fits nodes Collect words only = tt
verb_fits nodes Abort words only = tt
verb_fits nodes Heal words only = tt
verb_fits nodes Vanish words only = tt
verb_fits nodes Step words only = tt
verb_fits nodes Finish words only = tt
verb_fits nodes Sweep words only = always (node_at nodes words.third) _ _ (λ node. always (start_at words.fourth) _ _ (λ txn. tt))
verb_fits nodes OpenSweep words only = always (node_at nodes words.third) _ _ (λ node. always (start_at words.fourth) _ _ (λ txn. tt))
verb_fits nodes SweepStep words only = tt
verb_fits nodes SweepFinish words only = tt
verb_fits nodes Post words only = always (name_at words.third) _ _ (λ name. tt)
verb_fits nodes Await words only = always (name_at words.third) _ _ (λ name. tt)

-- ---- the form
form_at_fits : (words : LineWords) (form : Option VerbForm) → IfOk (form_at Run words form) (λ f. is_replay_only f ≡ false)
form_at_fits words None = tt
form_at_fits words (Some form) =
    unless_so (not (words.count == verb_words form)) WrongNumberOfWords _ _ (λ right.
    unless_so (is_replay_only form) ReplayOnly (Ok form) _ (λ only. only))

form_fits : (actor : Actor) (words : LineWords) → IfOk (form_of Run actor words) (λ f. is_replay_only f ≡ false)
unfolding form_of
form_fits actor words = unless_so (nat_lt words.count 2) WrongNumberOfWords _ _ (λ enough. form_at_fits words (named (verb_forms actor) words.second))

-- ---- the line
pub line_fits : (nodes : ℕ) (actor : Actor) (words : LineWords) → IfOk (verb_at Run nodes actor words) IsForThreads
unfolding verb_at
line_fits nodes actor words =
    bound (form_of Run actor words) _ (λ f. is_replay_only f ≡ false) _ (form_fits actor words) (λ form only.
    verb_fits nodes form words only)
