-- A client session: what each call needs, answers and leaves.
use Rattle.std.specs.Prelude.{◌≡◌, ◌≢◌, ℕ, ◌==◌, nat_lt, Bool, true, false, ◌||◌, ◌⊎◌, IsTrue, IsSome, List, [], ◌∷◌, ◌++◌, Option, None, Some, Result, Ok, Err, if◌then◌else◌, length}
use Rattle.std.specs.List.{list_any}
use Rattle.std.specs.Option.{option_or}
use Rattle.stamp_base.specs.declared.limits.TheConstants.{KEY_LIMIT}
use Rattle.history_book.specs.declared.cause.Cause.{Cause}
use Rattle.history_book.specs.declared.cause.Cause.TheVariants.{Gone as CauseGone, NoTransaction, Busy, TooManyKeys, Idle}
use Rattle.system_parts.specs.declared.session.State.{State}
use Rattle.system_parts.specs.declared.session.State.TheVariants.{Free, Asking, Open, Committing, Placing, OpenOutcome, Completing, Gone}

-- a session: the start, the keys written and the commit are those of its transaction, the epoch that of the last begin
pub record SessionEntry : Type 0 where
  pub state : State
  pub start : Option ℕ
  pub epoch : Option ℕ
  pub keys : List ℕ
  pub commit : Option ℕ

abbrev pub session_new : SessionEntry
session_new = record { state = Free; start = None; epoch = None; keys = []; commit = None }

-- yes where nothing refuses, and otherwise the cause
abbrev pub IsAnswer : {T : Type 0} → Option Cause → Result T Cause → Type 0
IsAnswer refusal (Ok x) = refusal ≡ None
IsAnswer refusal (Err cause) = refusal ≡ Some cause

-- why no begin may be asked
abbrev pub begin_refusal : State → Option Cause
begin_refusal Gone = Some CauseGone
begin_refusal Free = None
begin_refusal _ = Some Busy

-- why a transaction may not write, fetch, ask for its commit or abort; a read that is under way keeps it busy
abbrev pub work_refusal : State → Bool → Option Cause
work_refusal Gone reading = Some CauseGone
work_refusal Free reading = Some NoTransaction
work_refusal Open reading = if reading then Some Busy else None
work_refusal _ reading = Some Busy

-- why there is no step to make
abbrev pub step_refusal : State → Bool → Option Cause
step_refusal Gone reading = Some CauseGone
step_refusal Placing reading = None
step_refusal OpenOutcome reading = None
step_refusal (Completing undo) reading = None
step_refusal _ reading = if reading then None else Some Idle

abbrev pub vanish_refusal : State → Option Cause
vanish_refusal Gone = Some CauseGone
vanish_refusal _ = None

abbrev pub has_key : List ℕ → ℕ → Bool
has_key keys key = list_any (λ k. k == key) keys

-- a key that is there keeps its place
abbrev pub key_added : List ℕ → ℕ → List ℕ
key_added keys key = if has_key keys key then keys else keys ++ key ∷ []

-- a key that is there is written again, and another one while there is room for it
abbrev pub key_refusal : List ℕ → ℕ → Option Cause
key_refusal keys key = if has_key keys key || nat_lt (length keys) KEY_LIMIT then None else Some TooManyKeys

-- the state comes before the number of keys
abbrev pub write_refusal : SessionEntry → ℕ → Option Cause
write_refusal e key = option_or (work_refusal e.state false) (key_refusal e.keys key)

abbrev pub session_wrote : SessionEntry → ℕ → SessionEntry
session_wrote e key = record e { keys = key_added e.keys key }

-- a begin that was asked is answered
abbrev pub CanBegin : SessionEntry → Type 0
CanBegin e = e.state ≡ Asking

abbrev pub session_begun : SessionEntry → ℕ → ℕ → SessionEntry
session_begun e start epoch = record { state = Open; start = Some start; epoch = Some epoch; keys = []; commit = None }

-- a begin is asked of a free session, a commit for a transaction that has written
abbrev pub CanAsk : SessionEntry → Type 0
CanAsk e = (e.state ≡ Free) ⊎ ((e.state ≡ Open) × (e.keys ≢ []))

abbrev pub asked_state : State → State
asked_state Free = Asking
asked_state _ = Committing

abbrev pub session_asked : SessionEntry → SessionEntry
session_asked e = record e { state = asked_state e.state }

-- a session without a transaction keeps the epoch
abbrev pub session_freed : SessionEntry → SessionEntry
session_freed e = record { state = Free; start = None; epoch = e.epoch; keys = []; commit = None }

-- a begin was refused, a transaction without writes has ended, or a completion
abbrev pub EndsFrom : State → List ℕ → Type 0
EndsFrom Asking keys = Unit {0}
EndsFrom Open keys = keys ≡ []
EndsFrom (Completing undo) keys = Unit {0}
EndsFrom _ keys = ⊥

abbrev pub CanFree : SessionEntry → Type 0
CanFree e = EndsFrom e.state e.keys

-- the transaction ends without a commit, wherever it stands
abbrev pub CanAbort : SessionEntry → Type 0
CanAbort e = (e.state ≡ Open) ⊎ (e.state ≡ Committing) ⊎ (e.state ≡ Placing) ⊎ (e.state ≡ OpenOutcome)

-- what was written is undone; where nothing was, the session is free
abbrev pub aborted_by : SessionEntry → List ℕ → SessionEntry
aborted_by e [] = session_freed e
aborted_by e (key ∷ keys) = record e { state = Completing true }

abbrev pub session_aborted : SessionEntry → SessionEntry
session_aborted e = aborted_by e e.keys

-- the commit was drawn, and the session is to place it
abbrev pub CanHand : SessionEntry → Type 0
CanHand e = e.state ≡ Committing

abbrev pub session_handed : SessionEntry → ℕ → SessionEntry
session_handed e commit = record e { state = Placing; commit = Some commit }

-- the start and the commit of the record that the session is to place
abbrev pub handed_by : State → Option ℕ → Option ℕ → Option (ℕ × ℕ)
handed_by Placing (Some start) (Some commit) = Some (start, commit)
handed_by _ start commit = None

abbrev pub handed_commit : SessionEntry → Option (ℕ × ℕ)
handed_commit e = handed_by e.state e.start e.commit

-- the commit was answered or placed, or found out where its outcome was open
abbrev pub CanCommit : SessionEntry → Type 0
CanCommit e = (e.state ≡ Committing) ⊎ (e.state ≡ Placing) ⊎ (e.state ≡ OpenOutcome)

abbrev pub session_committed : SessionEntry → ℕ → SessionEntry
session_committed e commit = record e { state = Completing false; commit = Some commit }

-- a commit was asked or was to be placed, and its outcome is not known
abbrev pub CanOpen : SessionEntry → Type 0
CanOpen e = (e.state ≡ Committing) ⊎ (e.state ≡ Placing)

abbrev pub session_opened : SessionEntry → SessionEntry
session_opened e = record e { state = OpenOutcome }

abbrev pub CanVanish : SessionEntry → Type 0
CanVanish e = e.state ≢ Gone

abbrev pub session_vanished : SessionEntry → SessionEntry
session_vanished e = record e { state = Gone }

abbrev pub has_transaction : State → Bool
has_transaction Open = true
has_transaction Committing = true
has_transaction Placing = true
has_transaction OpenOutcome = true
has_transaction (Completing undo) = true
has_transaction _ = false

abbrev pub has_written : State → Bool
has_written Committing = true
has_written Placing = true
has_written OpenOutcome = true
has_written (Completing undo) = true
has_written _ = false

-- what the state tells of the transaction
pub record MakesSense (e : SessionEntry) : Type 0 where
  pub started : IsTrue (has_transaction e.state) → IsSome e.start × IsSome e.epoch
  pub written : IsTrue (has_written e.state) → e.keys ≢ []
  pub committed : e.state ≡ Completing false → IsSome e.commit
  pub handed : e.state ≡ Placing → IsSome e.commit

-- each call keeps it
pub record KeepsSense (e : SessionEntry) : Type 0 where
  pub wrote : (key : ℕ) → MakesSense (session_wrote e key)
  pub begun : (start epoch : ℕ) → MakesSense (session_begun e start epoch)
  pub asked : CanAsk e → MakesSense (session_asked e)
  pub aborted : CanAbort e → MakesSense (session_aborted e)
  pub committed : (commit : ℕ) → CanCommit e → MakesSense (session_committed e commit)
  pub handed : (commit : ℕ) → CanHand e → MakesSense (session_handed e commit)
  pub opened : CanOpen e → MakesSense (session_opened e)
  pub freed : MakesSense (session_freed e)
  pub vanished : MakesSense (session_vanished e)

abbrev pub SessionsKeepSense : Type 0
SessionsKeepSense = MakesSense session_new × ((e : SessionEntry) → MakesSense e → KeepsSense e)
