-- Each line of a script is answered in the history, in the order of its actor's lines.
use Rattle.std.specs.Prelude.{◌≡◌, ◌⊎◌, ℕ, ◌==◌, Bool, true, false, ◌&&◌, List, [], ◌∷◌, ◌++◌, filter, Option, None, Some}
use Rattle.history_book.specs.declared.cause.Cause.{Cause}
use Rattle.history_book.specs.declared.cause.Cause.TheVariants as cause
use Rattle.history_book.specs.declared.item.Actor.{Actor}
use Rattle.history_book.specs.declared.item.Actor.TheVariants.{Clock, Node, Session, Janitor}
use Rattle.history_book.specs.declared.item.Ending.TheVariants.{ReadOnly}
use Rattle.history_book.specs.declared.item.Note.{Note}
use Rattle.history_book.specs.declared.item.Note.TheVariants as note
use Rattle.history_book.specs.declared.item.StoreStep.TheVariants as step
use Rattle.history_book.specs.declared.item.Item.{Item}
use Rattle.history_book.specs.declared.item.Item.TheVariants as item
use Rattle.script_data.specs.declared.line.Line.{Line}
use Rattle.script_data.specs.declared.line.Target.{Target}
use Rattle.script_data.specs.declared.line.Target.TheVariants as target
use Rattle.script_data.specs.declared.line.Verb.{Verb}
use Rattle.script_data.specs.declared.line.Verb.TheVariants as verb
use Rattle.script_data.specs.Data.{ScriptData}
use Rattle.command_semantics.specs.Master.{last_master, HasTake}

-- the actor whose line the item opens
abbrev pub opener : Item → Option Actor
opener (item.Tick to) = Some Clock
opener (item.Note actor said) = Some actor
opener (item.Take node reading term epoch until ceiling) = Some (Node node)
opener (item.Renew node reading term until) = Some (Node node)
opener (item.Crash node term) = Some (Node node)
opener (item.Vanish session) = Some (Session session)
opener (item.AskBegin session node) = Some (Session session)
opener (item.AskCommit session node start) = Some (Session session)
opener (item.Write session start key value) = Some (Session session)
opener (item.Step actor (step.Fetch key cells)) = Some actor
opener _ = None

-- the item opens a line of the actor
abbrev pub Opens : Actor → Item → Type 0
Opens actor x = opener x ≡ Some actor

-- ---- the opening item of a line, with its node, key, value and name
abbrev pub IsTick : Item → Type 0
IsTick (item.Tick to) = Unit {0}
IsTick _ = ⊥

abbrev pub IsNote : Actor → Note → Item → Type 0
IsNote actor said (item.Note who what) = (who ≡ actor) × (what ≡ said)
IsNote actor said _ = ⊥

abbrev pub IsTake : ℕ → Item → Type 0
IsTake n (item.Take node reading term epoch until ceiling) = node ≡ n
IsTake n _ = ⊥

abbrev pub IsRenew : ℕ → Item → Type 0
IsRenew n (item.Renew node reading term until) = node ≡ n
IsRenew n _ = ⊥

abbrev pub IsCrash : ℕ → Item → Type 0
IsCrash n (item.Crash node term) = node ≡ n
IsCrash n _ = ⊥

abbrev pub IsVanish : ℕ → Item → Type 0
IsVanish s (item.Vanish session) = session ≡ s
IsVanish s _ = ⊥

-- the session asks a node that may be asked
abbrev pub IsAskBegin : ℕ → (ℕ → Type 0) → Item → Type 0
IsAskBegin s asked (item.AskBegin session node) = (session ≡ s) × asked node
IsAskBegin s asked _ = ⊥

abbrev pub IsAskCommit : ℕ → (ℕ → Type 0) → Item → Type 0
IsAskCommit s asked (item.AskCommit session node start) = (session ≡ s) × asked node
IsAskCommit s asked _ = ⊥

abbrev pub IsWrite : ℕ → ℕ → List ℕ → Item → Type 0
IsWrite s k v (item.Write session start key value) = (session ≡ s) × (key ≡ k) × (value ≡ v)
IsWrite s k v _ = ⊥

abbrev pub IsFetch : ℕ → ℕ → Item → Type 0
IsFetch s k (item.Step actor (step.Fetch key cells)) = (actor ≡ Session s) × (key ≡ k)
IsFetch s k _ = ⊥

-- `asks` tells which nodes a line may ask that names a target
abbrev pub IsOpeningOf : (Target → ℕ → Type 0) → Actor → Verb → Item → Type 0
IsOpeningOf asks actor (verb.Post name) x = IsNote actor (note.Post name) x
IsOpeningOf asks actor (verb.Await name) x = IsNote actor (note.Await name) x
IsOpeningOf asks Clock (verb.Tick by) x = IsTick x
IsOpeningOf asks (Node n) (verb.Hold stage) x = IsNote (Node n) (note.Hold stage) x
IsOpeningOf asks (Node n) (verb.Free stage) x = IsNote (Node n) (note.Free stage) x
IsOpeningOf asks (Node n) verb.Take x = IsTake n x
IsOpeningOf asks (Node n) verb.Renew x = IsRenew n x
IsOpeningOf asks (Node n) verb.Crash x = IsCrash n x
IsOpeningOf asks (Session s) verb.Vanish x = IsVanish s x
IsOpeningOf asks (Session s) (verb.Begin to) x = IsAskBegin s (asks to) x
IsOpeningOf asks (Session s) (verb.AskBegin node) x = IsAskBegin s (λ asked. asked ≡ node) x
IsOpeningOf asks (Session s) (verb.Commit to) x = IsAskCommit s (asks to) x
IsOpeningOf asks (Session s) (verb.Submit to) x = IsAskCommit s (asks to) x
IsOpeningOf asks (Session s) (verb.AskCommit node) x = IsAskCommit s (λ asked. asked ≡ node) x
IsOpeningOf asks (Session s) (verb.Write key value) x = IsWrite s key value x
IsOpeningOf asks (Session s) (verb.Read key) x = IsFetch s key x
IsOpeningOf asks (Session s) (verb.Fetch key) x = IsFetch s key x
IsOpeningOf asks actor verb x = ⊥

-- ---- an answer without an opening item
-- the causes by which a line can be refused before anything comes of it; a node may also be told of the master record
abbrev pub RefusesLine : Actor → Cause → Type 0
RefusesLine actor cause.Gone = Unit {0}
RefusesLine actor cause.NoTransaction = Unit {0}
RefusesLine actor cause.Busy = Unit {0}
RefusesLine actor cause.TooManyKeys = Unit {0}
RefusesLine actor (cause.NoOracle node) = Unit {0}
RefusesLine actor (cause.Full in_flight) = Unit {0}
RefusesLine actor (cause.Holding term) = Unit {0}
RefusesLine actor (cause.Early reading until) = Unit {0}
RefusesLine (Node n) (cause.Replaced found) = Unit {0}
RefusesLine (Node n) (cause.Spent ceiling) = Unit {0}
RefusesLine actor why = ⊥

-- a refusal or a fault of the actor
abbrev pub IsRefusal : Actor → Item → Type 0
IsRefusal actor (item.Refused who why) = (who ≡ actor) × RefusesLine actor why
IsRefusal actor (item.Fault who store) = who ≡ actor
IsRefusal actor _ = ⊥

-- a transaction without writes has ended
abbrev pub IsReadOnly : ℕ → Item → Type 0
IsReadOnly s (item.End session start ReadOnly) = session ≡ s
IsReadOnly s _ = ⊥

abbrev pub EndsInstead : Actor → Verb → Item → Type 0
EndsInstead (Session s) (verb.Commit to) x = IsReadOnly s x
EndsInstead (Session s) (verb.Submit to) x = IsReadOnly s x
EndsInstead (Session s) (verb.AskCommit node) x = IsReadOnly s x
EndsInstead actor verb x = ⊥

abbrev pub IsAnswer : (Target → ℕ → Type 0) → Actor → Verb → Item → Type 0
IsAnswer asks actor verb x = IsOpeningOf asks actor verb x ⊎ IsRefusal actor x ⊎ EndsInstead actor verb x

-- ---- a read that was begun comes to its value or to a fault
-- the key of the read that this item has begun for a line
abbrev pub read_begun : Verb → Item → Option ℕ
read_begun (verb.Read key) (item.Step actor (step.Fetch fetched cells)) = Some key
read_begun verb x = None

abbrev pub EndsRead : Actor → ℕ → Item → Type 0
EndsRead actor key (item.Read session start read answer) = (Session session ≡ actor) × (read ≡ key)
EndsRead actor key (item.Fault who store) = who ≡ actor
EndsRead actor key _ = ⊥

-- ---- which nodes a line may ask
-- the node that it names; and one that names the master asks the node that took the record last before the line's place, or
-- the first node where none did
abbrev pub asks_last : List Item → Target → ℕ → Type 0
asks_last before (target.Node named) node = node ≡ named
asks_last before target.Master node = node ≡ last_master before

-- the same, but that one that names the master asks the first node, or any that took the record before the line's place
abbrev pub asks_some : List Item → Target → ℕ → Type 0
asks_some before (target.Node named) node = node ≡ named
asks_some before target.Master node = (node ≡ 0) ⊎ HasTake before node

-- Walks the history along the actor's lines, behind the part of it before. Each item answers the next line, or opens no line of
-- the actor; a read that was begun ends before the next line is answered. At the end no line is left, and no read. So each line
-- is answered once, in order, and nothing opens a line that is not there.
unfoldable pub Answered : (List Item → Target → ℕ → Type 0) → Actor → List Item → Option ℕ → List Line → List Item → Type 0
Answered asks actor before begun lines [] = (begun ≡ None) × (lines ≡ [])
Answered asks actor before (Some key) lines (x ∷ xs) = (EndsRead actor key x × Answered asks actor (before ++ x ∷ []) None lines xs) ⊎ ((Opens actor x → ⊥) × Answered asks actor (before ++ x ∷ []) (Some key) lines xs)
Answered asks actor before None [] (x ∷ xs) = (Opens actor x → ⊥) × Answered asks actor (before ++ x ∷ []) None [] xs
Answered asks actor before None (line ∷ lines) (x ∷ xs) = (IsAnswer (asks before) line.actor line.verb x × Answered asks actor (before ++ x ∷ []) (read_begun line.verb x) lines xs) ⊎ ((Opens actor x → ⊥) × Answered asks actor (before ++ x ∷ []) None (line ∷ lines) xs)

-- ---- the lines of an actor
-- the two are one actor
abbrev pub same_actor : Actor → Actor → Bool
same_actor Clock Clock = true
same_actor (Node n) (Node m) = n == m
same_actor (Session s) (Session t) = s == t
same_actor Janitor Janitor = true
same_actor _ _ = false

-- the form has an opening item
abbrev pub session_opening : Verb → Bool
session_opening verb.Vanish = true
session_opening (verb.Begin to) = true
session_opening (verb.AskBegin node) = true
session_opening (verb.Commit to) = true
session_opening (verb.Submit to) = true
session_opening (verb.AskCommit node) = true
session_opening (verb.Write key value) = true
session_opening (verb.Read key) = true
session_opening (verb.Fetch key) = true
session_opening (verb.Post name) = true
session_opening (verb.Await name) = true
session_opening verb = false

abbrev pub node_opening : Verb → Bool
node_opening verb.Take = true
node_opening verb.Renew = true
node_opening verb.Crash = true
node_opening (verb.Hold stage) = true
node_opening (verb.Free stage) = true
node_opening (verb.Post name) = true
node_opening (verb.Await name) = true
node_opening verb = false

abbrev pub name_opening : Verb → Bool
name_opening (verb.Post name) = true
name_opening (verb.Await name) = true
name_opening verb = false

abbrev pub clock_opening : Verb → Bool
clock_opening (verb.Tick by) = true
clock_opening verb = name_opening verb

abbrev pub has_opening : Actor → Verb → Bool
has_opening Clock verb = clock_opening verb
has_opening (Node n) verb = node_opening verb
has_opening (Session s) verb = session_opening verb
has_opening Janitor verb = name_opening verb

-- the line is one of the actor's, of a form that has an opening item
abbrev pub is_of : Actor → Line → Bool
is_of actor line = same_actor line.actor actor && has_opening line.actor line.verb

-- each line of each actor is answered, by a rule for the nodes that lines ask
abbrev pub AnswersBy : (List Item → Target → ℕ → Type 0) → ScriptData → List Item → Type 0
AnswersBy asks script h = (actor : Actor) → Answered asks actor [] None (filter (is_of actor) script.lines) h

-- each line of each actor is answered: in file order, where a line that names the master finds the last
abbrev pub Answers : ScriptData → List Item → Type 0
Answers script h = AnswersBy asks_last script h

-- and on threads, where it may find one that was
abbrev pub AnswersOnThreads : ScriptData → List Item → Type 0
AnswersOnThreads script h = AnswersBy asks_some script h
