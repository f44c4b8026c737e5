-- Each line of a script is answered in the history, and what it has begun is over before its actor's next line: a read, and the ask
-- of a begin or a commit with all that it comes to.
use Rattle.std.specs.Prelude.{◌≡◌, ◌⊎◌, ℕ, ◌==◌, Bool, true, false, ◌||◌, List, [], ◌∷◌, ◌++◌, filter, Option, None, Some, if◌then◌else◌}
use Rattle.std.specs.List.{list_any}
use Rattle.stamp_base.specs.declared.stores.Store.{Store}
use Rattle.stamp_base.specs.declared.stores.Store.TheVariants.{Master}
use Rattle.history_book.specs.Members.{◌∈◌}
use Rattle.history_book.specs.declared.cause.Cause.{Cause}
use Rattle.history_book.specs.declared.cause.Cause.TheVariants as cause
use Rattle.history_book.specs.declared.item.Actor.{Actor}
use Rattle.history_book.specs.declared.item.Actor.TheVariants.{Node, Session}
use Rattle.history_book.specs.declared.item.StoreStep.TheVariants as step
use Rattle.history_book.specs.declared.item.Item.{Item}
use Rattle.history_book.specs.declared.item.Item.TheVariants as item
use Rattle.script_data.specs.declared.line.Line.{Line}
use Rattle.script_data.specs.declared.line.Verb.{Verb}
use Rattle.script_data.specs.declared.line.Verb.TheVariants as verb
use Rattle.script_data.specs.Data.{ScriptData}
use Rattle.command_semantics.specs.Answers.{Opens, IsAnswer, asks_last, is_of}
use Rattle.cause_rules.specs.Asks.{Ask}
use Rattle.cause_rules.specs.OpenAsks.{open_asks_of}
use Rattle.cause_rules.specs.Written.{written_keys}
use Rattle.log_refinement.specs.Owed.{leaves_cells, ends_read}

-- ---- what an ask has come to, by the history up to a place and by the part of it since the ask
-- it is not open any more, or the session was told to wait
abbrev pub IsOver : List Item → ℕ → ℕ → List Item → Type 0
IsOver h s node since = (open_asks_of h node s ≡ 0) ⊎ ((commit : ℕ) × (item.Refused (Session s) (cause.NotYet commit) ∈ since))

-- a call of the session on a store failed
abbrev pub HasFailed : ℕ → List Item → Type 0
HasFailed s items = (store : Store) × (item.Fault (Session s) store ∈ items)

-- the session was told that the outcome of its commit is open
abbrev pub WasOpen : ℕ → List Item → Type 0
WasOpen s items = (start : ℕ) × (item.Refused (Session s) (cause.Open start) ∈ items)

-- behind a commit, of which the session was not told before that its outcome is open, the record goes, or a call failed
abbrev pub IsRemoved : ℕ → List Item → Type 0
IsRemoved s since =
    (before behind : List Item) (start commit : ℕ) → since ≡ before ++ item.Committed s start commit ∷ behind → WasOpen s before ⊎ (item.Step (Session s) (step.Remove start) ∈ behind) ⊎ HasFailed s behind

-- behind a refusal that ended a commit each cell that the transaction wrote is erased, or a call failed
abbrev pub IsErased : List Item → ℕ → Option ℕ → List Item → Type 0
IsErased h s None since = Unit {0}
IsErased h s (Some start) since =
    (before behind : List Item) (why : Cause) → since ≡ before ++ item.Refused (Session s) why ∷ behind → leaves_cells why ≡ true →
    ((key : ℕ) → key ∈ written_keys h start → item.Step (Session s) (step.Erase key start) ∈ behind) ⊎ HasFailed s behind

-- all three
pub record HasCome (h : List Item) (s : ℕ) (ask : Ask) (since : List Item) : Type 0 where
  pub over : IsOver h s ask.node since
  pub removed : IsRemoved s since
  pub erased : IsErased h s ask.start since

-- ---- what its session could not drive
-- the line makes the event of a stage for the session
abbrev pub is_stage_for : ℕ → Verb → Bool
is_stage_for s (verb.Accept session) = session == s
is_stage_for s (verb.Decide session) = session == s
is_stage_for s (verb.Put session) = session == s
is_stage_for s (verb.Answer session) = session == s
is_stage_for s v = false

-- others than the session's own lines may serve what it asks: such a line, or the session places commits that are handed to it
abbrev pub others_serve : ScriptData → ℕ → Bool
others_serve script s = script.setup.direct || list_any (λ line. is_stage_for s line.verb) script.lines

abbrev pub HasCrashed : ℕ → List Item → Type 0
HasCrashed node items = (term : ℕ) × (item.Crash node term ∈ items)

-- its node had no request of the session
abbrev pub WasDenied : ℕ → List Item → Type 0
WasDenied s since = (who : Actor) × (item.Refused who (cause.NoRequest s) ∈ since)

-- so it was where others served it, or the node crashed; or the node could not reach its record
abbrev pub IsLeft : ScriptData → ℕ → ℕ → List Item → Type 0
IsLeft script s node since = (WasDenied s since × ((others_serve script s ≡ true) ⊎ HasCrashed node since)) ⊎ (item.Fault (Node node) Master ∈ since)

-- ---- what a line has begun
pub data Begun : Type 0 where
  Nothing : Begun
  -- a read of the key
  Reads : (key : ℕ) → Begun
  -- an ask of the session, with what stands since
  Asks : (session : ℕ) (ask : Ask) (since : List Item) → Begun

-- by the item that answers it
abbrev pub begun_by : Verb → Item → Begun
begun_by (verb.Read key) (item.Step actor (step.Fetch fetched cells)) = Reads key
begun_by (verb.Begin to) (item.AskBegin session node) = Asks session (record { node = node; start = None }) []
begun_by (verb.Commit to) (item.AskCommit session node start) = Asks session (record { node = node; start = Some start }) []
begun_by verb x = Nothing

-- after one more item
abbrev pub begun_after : Actor → Begun → Item → Begun
begun_after actor Nothing x = Nothing
begun_after actor (Reads key) x = if ends_read actor key x then Nothing else Reads key
begun_after actor (Asks session ask since) x = Asks session ask (since ++ x ∷ [])

-- it is over
abbrev pub HasEnded : ScriptData → List Item → Begun → Type 0
HasEnded script h Nothing = Unit {0}
HasEnded script h (Reads key) = ⊥
HasEnded script h (Asks session ask since) = IsLeft script session ask.node since ⊎ HasCome h session ask since

-- ---- the lines of an actor
-- Walks the history along the actor's lines, behind the part of it before. Each item answers the next line, once what was begun has
-- ended, or opens no line of the actor. At the end no line is left, and what was begun has ended.
unfoldable pub AnsweredServed : (List Item → Begun → Type 0) → Actor → List Item → Begun → List Line → List Item → Type 0
AnsweredServed Ended actor before begun lines [] = Ended before begun × (lines ≡ [])
AnsweredServed Ended actor before begun [] (x ∷ xs) = (Opens actor x → ⊥) × AnsweredServed Ended actor (before ++ x ∷ []) (begun_after actor begun x) [] xs
AnsweredServed Ended actor before begun (line ∷ lines) (x ∷ xs) =
    (Ended before begun × IsAnswer (asks_last before) line.actor line.verb x × AnsweredServed Ended actor (before ++ x ∷ []) (begun_by line.verb x) lines xs)
    ⊎ ((Opens actor x → ⊥) × AnsweredServed Ended actor (before ++ x ∷ []) (begun_after actor begun x) (line ∷ lines) xs)

-- each line of each actor is answered, and served
abbrev pub Served : ScriptData → List Item → Type 0
Served script h = (actor : Actor) → AnsweredServed (HasEnded script) actor [] Nothing (filter (is_of actor) script.lines) h

-- ---- by outcomes
-- it has ended, and where nobody else may serve what the session asks and the node has not crashed since, an ask by its outcome, unless
-- the node could not reach its record
abbrev pub HasOutcome : ScriptData → List Item → Begun → Type 0
HasOutcome script h Nothing = Unit {0}
HasOutcome script h (Reads key) = ⊥
HasOutcome script h (Asks session ask since) = others_serve script session ≡ false → (HasCrashed ask.node since → ⊥) → (item.Fault (Node ask.node) Master ∈ since) ⊎ HasCome h session ask since

-- so it is with each line of each actor
abbrev pub IsServedByOutcomes : ScriptData → List Item → Type 0
IsServedByOutcomes script h = (actor : Actor) → AnsweredServed (HasOutcome script) actor [] Nothing (filter (is_of actor) script.lines) h
