-- Which lines the log of an actor is of.
use Rattle.std.specs.Prelude.{◌≡◌, ◌⊎◌, ℕ, Bool, true, List, [], ◌∷◌, filter, Option, None, Some}
use Rattle.std.specs.List.{AllZip}
use Rattle.history_book.specs.declared.item.Actor.{Actor}
use Rattle.history_book.specs.declared.item.Actor.TheVariants.{Clock, Node, Session, Janitor}
use Rattle.history_book.specs.declared.item.Note.TheVariants as note
use Rattle.script_data.specs.declared.line.Line.{Line}
use Rattle.script_data.specs.declared.line.Target.TheVariants as target
use Rattle.script_data.specs.declared.line.Verb.{Verb}
use Rattle.script_data.specs.declared.line.Verb.TheVariants as verb
use Rattle.script_data.specs.Data.{ScriptData}
use Rattle.command_semantics.specs.Answers.{same_actor}
use Rattle.split_parts.specs.declared.event.Event.{Event}
use Rattle.split_parts.specs.declared.event.Event.TheVariants as event
use Rattle.split_stores.specs.declared.seat.Entry.{Entry}
use Rattle.split_stores.specs.Logs.{Logged}
use Rattle.log_refinement.specs.Owed.{Standing, first_standing, gone_on, opened, is_paid}

-- ---- events
-- the actor whose lines an event can open
abbrev pub opener : Event → Option Actor
opener (event.Tick by) = Some Clock
opener (event.Note actor said) = Some actor
opener (event.Take node) = Some (Node node)
opener (event.Renew node) = Some (Node node)
opener (event.Crash node) = Some (Node node)
opener (event.AskBegin session to) = Some (Session session)
opener (event.AskCommit session to) = Some (Session session)
opener (event.Write session key value) = Some (Session session)
opener (event.Fetch session key) = Some (Session session)
opener (event.Vanish session) = Some (Session session)
opener _ = None

-- the first event of a line of a form that has an opening item; none of another form
abbrev pub noted : Actor → Verb → Option Event
noted actor (verb.Post name) = Some (event.Note actor (note.Post name))
noted actor (verb.Await name) = Some (event.Note actor (note.Await name))
noted actor _ = None

abbrev pub session_first : ℕ → Verb → Option Event
session_first s (verb.Begin to) = Some (event.AskBegin s to)
session_first s (verb.AskBegin node) = Some (event.AskBegin s (target.Node node))
session_first s (verb.Commit to) = Some (event.AskCommit s to)
session_first s (verb.Submit to) = Some (event.AskCommit s to)
session_first s (verb.AskCommit node) = Some (event.AskCommit s (target.Node node))
session_first s (verb.Write key value) = Some (event.Write s key value)
session_first s (verb.Read key) = Some (event.Fetch s key)
session_first s (verb.Fetch key) = Some (event.Fetch s key)
session_first s verb.Vanish = Some (event.Vanish s)
session_first s verb = noted (Session s) verb

abbrev pub node_first : ℕ → Verb → Option Event
node_first n verb.Take = Some (event.Take n)
node_first n verb.Renew = Some (event.Renew n)
node_first n verb.Crash = Some (event.Crash n)
node_first n (verb.Hold stage) = Some (event.Note (Node n) (note.Hold stage))
node_first n (verb.Free stage) = Some (event.Note (Node n) (note.Free stage))
node_first n verb = noted (Node n) verb

abbrev pub first_event : Actor → Verb → Option Event
first_event Clock (verb.Tick by) = Some (event.Tick by)
first_event (Node n) verb = node_first n verb
first_event (Session s) verb = session_first s verb
first_event actor verb = noted actor verb

-- ---- lines without an opening item
abbrev pub session_plain : ℕ → Verb → Option Event
session_plain s verb.Abort = Some (event.Abort s)
session_plain s verb.Heal = Some (event.Heal s)
session_plain s verb.Step = Some (event.Step s)
session_plain s verb.Finish = Some (event.Step s)
session_plain s verb = None

abbrev pub node_plain : ℕ → Verb → Option Event
node_plain n verb.Extend = Some (event.Extend n)
node_plain n (verb.Accept session) = Some (event.Accept n session)
node_plain n (verb.Decide session) = Some (event.Decide n session)
node_plain n (verb.Put session) = Some (event.Put n session)
node_plain n (verb.Answer session) = Some (event.Answer n session)
node_plain n verb = None

abbrev pub janitor_plain : Verb → Option Event
janitor_plain (verb.Sweep node txn) = Some (event.SweepOpen node txn)
janitor_plain (verb.OpenSweep node txn) = Some (event.SweepOpen node txn)
janitor_plain verb.Step = Some event.SweepStep
janitor_plain verb.Finish = Some event.SweepStep
janitor_plain verb = None

-- the first event of a line of any other form
abbrev pub plain_event : Actor → Verb → Option Event
plain_event Clock verb = None
plain_event (Node n) verb = node_plain n verb
plain_event (Session s) verb = session_plain s verb
plain_event Janitor verb = janitor_plain verb

-- The form tells no first event. It is a collect: it begins with the event that its request is waiting for, or with a step, and makes
-- none where something else of the session is under way.
abbrev pub TellsNoFirst : Actor → Verb → Type 0
TellsNoFirst actor verb = (first_event actor verb ≡ None) × (plain_event actor verb ≡ None)

-- the first events of these lines, in their order; a line whose form tells none has none here
abbrev pub with_first : Option Event → List Event → List Event
with_first None es = es
with_first (Some e) es = e ∷ es

unfoldable pub first_events : Actor → List Line → List Event
first_events actor [] = []
first_events actor (line ∷ lines) = with_first (first_event actor line.verb) (with_first (plain_event actor line.verb) (first_events actor lines))

-- an event of the actor behind the first of a line: a session serves its own request and makes its own steps, and a sweep is stepped
abbrev pub IsLater : Actor → Event → Type 0
IsLater (Session s) (event.Extend node) = Unit {0}
IsLater (Session s) (event.Accept node session) = session ≡ s
IsLater (Session s) (event.Decide node session) = session ≡ s
IsLater (Session s) (event.Put node session) = session ≡ s
IsLater (Session s) (event.Answer node session) = session ≡ s
IsLater (Session s) (event.Step session) = session ≡ s
IsLater Janitor event.SweepStep = Unit {0}
IsLater actor e = ⊥

-- ---- logs
-- The entries open these lines of the actor one after the other, each by its first event, once nothing is owed; the entries
-- between go on with the line that is open. At the end no line is left, and nothing is owed. A line whose form tells no first event
-- is passed over: what it makes goes on.
unfoldable pub Follows : Actor → Standing → List Line → List Entry → Type 0
Follows actor st [] [] = is_paid st ≡ true
Follows actor st (line ∷ lines) [] = TellsNoFirst actor line.verb × Follows actor st lines []
Follows actor st [] (e ∷ es) = IsLater actor e.event × Follows actor (gone_on actor st e) [] es
Follows actor st (line ∷ lines) (e ∷ es) =
    (IsLater actor e.event × Follows actor (gone_on actor st e) (line ∷ lines) es)
    ⊎ ((is_paid st ≡ true) × (first_event actor line.verb ≡ Some e.event) × Follows actor (opened actor line.verb st e.kept.items) lines es)
    ⊎ ((is_paid st ≡ true) × (plain_event actor line.verb ≡ Some e.event) × Follows actor (gone_on actor st e) lines es)
    ⊎ (TellsNoFirst actor line.verb × Follows actor st lines (e ∷ es))

-- The same walk, which may end anywhere: the entries open the lines of a front, and the last of them may not be at its end.
unfoldable pub FollowsFront : Actor → Standing → List Line → List Entry → Type 0
FollowsFront actor st lines [] = Unit {0}
FollowsFront actor st [] (e ∷ es) = IsLater actor e.event × FollowsFront actor (gone_on actor st e) [] es
FollowsFront actor st (line ∷ lines) (e ∷ es) =
    (IsLater actor e.event × FollowsFront actor (gone_on actor st e) (line ∷ lines) es)
    ⊎ ((is_paid st ≡ true) × (first_event actor line.verb ≡ Some e.event) × FollowsFront actor (opened actor line.verb st e.kept.items) lines es)
    ⊎ ((is_paid st ≡ true) × (plain_event actor line.verb ≡ Some e.event) × FollowsFront actor (gone_on actor st e) lines es)
    ⊎ (TellsNoFirst actor line.verb × FollowsFront actor st lines (e ∷ es))

-- the line is one of the actor's
abbrev pub is_own : Actor → Line → Bool
is_own actor line = same_actor line.actor actor

-- the log is of the lines of the actor, each of them
abbrev pub FollowsLines : List Line → Actor → List Entry → Type 0
FollowsLines lines actor entries = Follows actor first_standing (filter (is_own actor) lines) entries

-- the log is of a front of these lines
abbrev pub FollowsSome : List Line → Actor → List Entry → Type 0
FollowsSome lines actor entries = FollowsFront actor first_standing (filter (is_own actor) lines) entries

-- each of the actors has one log, which is of its lines
abbrev pub AllFollow : ScriptData → List Actor → List Logged → Type 0
AllFollow script actors logs = AllZip (λ actor log. FollowsLines script.lines actor log.entries) actors logs

-- these events stand among those of the entries, in their order, each as one entry
unfoldable pub AreAmong : List Event → List Entry → Type 0
AreAmong [] entries = Unit {0}
AreAmong (e ∷ es) [] = ⊥
AreAmong (e ∷ es) (entry ∷ entries) = ((entry.event ≡ e) × AreAmong es entries) ⊎ AreAmong (e ∷ es) entries

-- each of the actors has one log, in which each line of the actor has its first event, once and in the order of the lines
abbrev pub AllBegin : ScriptData → List Actor → List Logged → Type 0
AllBegin script actors logs = AllZip (λ actor log. AreAmong (first_events actor (filter (is_own actor) script.lines)) log.entries) actors logs

-- each of the actors has one log, which is of a front of its lines
abbrev pub AllFollowSome : ScriptData → List Actor → List Logged → Type 0
AllFollowSome script actors logs = AllZip (λ actor log. FollowsSome script.lines actor log.entries) actors logs
