-- What the lines of a script are granted where they are carried out by turns: one law for each kind of line, over the turns that
-- serve it, whatever turns of others were made before, between and after them.
use Rattle.std.specs.Prelude.{◌≡◌, ◌≢◌, ℕ, ◌+◌, ◌*◌, ◌<◌, ◌≤◌, ◌⊎◌, Bool, true, false, List, [], ◌∷◌, ◌++◌, filter, fold, length, Option, None, Some, IfSome}
use Rattle.stamp_base.specs.SetupNumbers.{AreInRange}
use Rattle.stamp_base.specs.declared.stores.Store.TheVariants.{Table}
use Rattle.port_io.specs.declared.weather.Fate.TheVariants.{Works}
use Rattle.history_book.specs.Members.{◌∈◌}
use Rattle.history_book.specs.declared.item.Actor.{Actor}
use Rattle.history_book.specs.declared.item.Actor.TheVariants.{Node, Session}
use Rattle.history_book.specs.declared.item.Found.{Found}
use Rattle.history_book.specs.declared.item.Item.TheVariants as item
use Rattle.system_parts.specs.declared.session.State.TheVariants as phase
use Rattle.system_parts.specs.KeyRead.{Reading, read_ask}
use Rattle.system_parts.specs.declared.buckets.Verdict.TheVariants.{Free}
use Rattle.system_parts.specs.Buckets.{verdict_both}
use Rattle.system_parts.specs.Instance.{InstanceEntry, in_flight, least_unsettled}
use Rattle.machine.specs.State.{Client}
use Rattle.machine.specs.StoreSteps.{store_of}
use Rattle.machine.specs.declared.event.Event.TheVariants as event
use Rattle.script_data.specs.declared.line.Line.{Line}
use Rattle.script_data.specs.declared.line.Target.{Target}
use Rattle.script_data.specs.declared.line.Verb.{Verb}
use Rattle.script_data.specs.declared.line.Verb.TheVariants as verb
use Rattle.script_data.specs.Data.{ScriptData}
use Rattle.isolation_laws.specs.Words.{InstanceAt, ClientAt, Marked}
use Rattle.command_semantics.specs.declared.point.Point.TheVariants.{Opens, Drives}
use Rattle.command_semantics.specs.Answers.{same_actor}
use Rattle.command_semantics.specs.Laws.{IsPlayable}
use Rattle.command_semantics.specs.Next.{target_node}
use Rattle.command_semantics.specs.Runs.{Played}
use Rattle.turn_rules.specs.declared.seat.Seat.{Seat}
use Rattle.turn_rules.specs.declared.turn.Turn.{Turn}
use Rattle.turn_rules.specs.declared.turn.Turn.TheVariants as turn
use Rattle.turn_rules.specs.Seats.{present_line}
use Rattle.turn_rules.specs.declared.ahead.NextAction.TheVariants.{Makes}
use Rattle.turn_rules.specs.Carried.{Carried, aimed_clocks, seat_of, own_ahead, event_of, turned, carried, carried_items}
use Rattle.grant_laws.specs.Granted.{reading_of, next_fate}
use Rattle.grant_laws.specs.Premises.{IsAtWork, CanWrite, CanTake, CanFetch, cells_to_read}
use Rattle.grant_laws.specs.Turns.{touches, IsPlacing, ReadsKey}

-- ---- a line
-- the actor's present line has this form, and has made no event yet
pub record IsAhead (script : ScriptData) (c : Carried) (actor : Actor) (verb : Verb) : Type 0 where
  pub seat : Seat
  pub sits : seat_of c.seats actor ≡ Some seat
  pub line : Line
  pub present : present_line script seat ≡ Some line
  pub verb_is : line.verb ≡ verb
  pub unopened : seat.point ≡ Opens

-- the actor's present line has this form, and its request is served or was
pub record HasAsked (script : ScriptData) (c : Carried) (actor : Actor) (verb : Verb) : Type 0 where
  pub seat : Seat
  pub sits : seat_of c.seats actor ≡ Some seat
  pub line : Line
  pub present : present_line script seat ≡ Some line
  pub verb_is : line.verb ≡ verb
  pub asked : seat.point ≡ Drives

-- the node that a line asks where its session's share is aimed at this one: the one that it names, or, where it names the master,
-- that at which the share is aimed, once that node has taken the record
abbrev pub node_aimed : ScriptData → Carried → ℕ → Target → ℕ
node_aimed script c aim to = target_node (aimed_clocks script c aim) to

-- the node has an instance, of which this holds
pub record AtNode (p : Played) (node : ℕ) (P : InstanceEntry → Type 0) : Type 0 where
  pub oracle : InstanceEntry
  pub node_has : InstanceAt p.state.nodes node oracle
  pub so : P oracle

-- and the session its client, of both of which this holds
pub record AtBoth (p : Played) (node session : ℕ) (P : InstanceEntry → Client → Type 0) : Type 0 where
  pub oracle : InstanceEntry
  pub node_has : InstanceAt p.state.nodes node oracle
  pub client : Client
  pub session_is : ClientAt p.state.clients session client
  pub so : P oracle client

-- ---- a write and a take: one turn of their own
abbrev pub RunsGrantWrites : Type 0
RunsGrantWrites =
    (script : ScriptData) (before later : List Turn) (aim session key : ℕ) (value : List ℕ) → let c = carried script before in IsAhead script c (Session session) (verb.Write key value) → (can : CanWrite script c.played session key) →
    item.Write session can.work.start key value ∈ carried_items script (before ++ turn.Own (Session session) aim ∷ later)

abbrev pub RunsGrantTakes : Type 0
RunsGrantTakes =
    (script : ScriptData) (before later : List Turn) (aim node : ℕ) → let c = carried script before in AreInRange script.setup → IsPlayable script 0 script.lines → IsAhead script c (Node node) verb.Take → CanTake script c.played node →
    item.Take node (reading_of script c.played node) (c.played.state.master.term + 1) c.played.state.master.ceiling (reading_of script c.played node + script.setup.lease) (c.played.state.master.ceiling + script.setup.range) ∈ carried_items script (before ++ turn.Own (Node node) aim ∷ later)

-- the turn is the session's own
abbrev pub is_own : ℕ → Turn → Bool
is_own session (turn.Own actor aim) = same_actor actor (Session session)
is_own session _ = false

-- ---- turns in between
-- what the turn comes to, and then these of others
abbrev pub with_others : ScriptData → Carried → Turn → List Turn → Carried
with_others script c t others = fold (turned script) (turned script c t) others

-- none of these turns serves the session's request at the node, asks for the session there, or ends the node's instance
unfoldable pub Leave : ScriptData → ℕ → ℕ → Carried → List Turn → Type 0
Leave script node session c [] = Unit {0}
Leave script node session c (t ∷ turns) = IfSome (event_of script c t) (λ e. touches node session e ≡ false) × Leave script node session (turned script c t) turns

-- the turn answers the begin while a commit that was drawn below its start is not settled
pub record AnswersEarly (c : Carried) (node session start : ℕ) (t : Turn) : Type 0 where
  pub answers : t ≡ turn.Answer node session
  pub unsettled : AtNode c.played node (λ i. least_unsettled i.requests start ≢ None)

-- each of these turns leaves the begin, or answers it too early
unfoldable pub LeaveWaiting : ScriptData → ℕ → ℕ → ℕ → Carried → List Turn → Type 0
LeaveWaiting script node session start c [] = Unit {0}
LeaveWaiting script node session start c (t ∷ turns) = (IfSome (event_of script c t) (λ e. touches node session e ≡ false) ⊎ AnswersEarly c node session start t) × LeaveWaiting script node session start (turned script c t) turns

-- ---- a request up to its stamp
-- the turns before the session asks, the node at which its share is aimed then, and the turns of others before the acceptance and
-- before the draw
pub record UpToDraw : Type 0 where
  pub before : List Turn
  pub aim : ℕ
  pub asked : List Turn
  pub accepted : List Turn

-- all of them, with the three that serve the request, and the rest
abbrev pub all_up_to_draw : ℕ → ℕ → UpToDraw → List Turn → List Turn
all_up_to_draw session node u rest = u.before ++ turn.Own (Session session) u.aim ∷ (u.asked ++ turn.Accept node session ∷ (u.accepted ++ turn.Decide node session ∷ rest))

-- what was carried out when the session asks, when the request is accepted, and when its stamp is drawn
abbrev pub at_ask : ScriptData → UpToDraw → Carried
at_ask script u = carried script u.before

abbrev pub at_accept : ScriptData → ℕ → UpToDraw → Carried
at_accept script session u = with_others script (at_ask script u) (turn.Own (Session session) u.aim) u.asked

abbrev pub at_draw : ScriptData → ℕ → ℕ → UpToDraw → Carried
at_draw script session node u = with_others script (at_accept script session u) (turn.Accept node session) u.accepted

-- what begins and commits need of the node: a slot at the ask, the lease at the acceptance, a stamp at the draw
pub record CanServeBy (script : ScriptData) (session node : ℕ) (u : UpToDraw) : Type 0 where
  pub slot : AtNode (at_ask script u).played node (λ i. in_flight i < i.slots)
  pub leased : AtNode (at_accept script session u).played node (λ i. reading_of script (at_accept script session u).played node < i.until)
  pub stamp : AtNode (at_draw script session node u).played node (λ i. i.last < i.ceiling)
  -- the turns of others leave the request
  pub until_accepted : Leave script node session (turned script (at_ask script u) (turn.Own (Session session) u.aim)) u.asked
  pub until_drawn : Leave script node session (turned script (at_accept script session u) (turn.Accept node session)) u.accepted

-- the stamp that it draws
abbrev pub stamp_drawn : {script : ScriptData} {session node : ℕ} {u : UpToDraw} → CanServeBy script session node u → ℕ
stamp_drawn serving = serving.stamp.oracle.last + 1

-- ---- a begin
abbrev pub at_begin_answer : ScriptData → ℕ → ℕ → UpToDraw → List Turn → Carried
at_begin_answer script session node u drawn = with_others script (at_draw script session node u) (turn.Decide node session) drawn

-- `drawn` are the turns of others between the draw and the answer
pub record CanBeginBy (script : ScriptData) (session node : ℕ) (u : UpToDraw) (drawn : List Turn) : Type 0 where
  pub client : Client
  -- the session is free when it asks
  pub session_is : ClientAt (at_ask script u).played.state.clients session client
  pub is_free : client.entry.state ≡ phase.Free
  -- the node serves its request as far as to its stamp
  pub serving : CanServeBy script session node u
  -- it waits for the commits that were drawn below it, which are settled when it is answered
  pub until_answered : LeaveWaiting script node session (stamp_drawn serving) (turned script (at_draw script session node u) (turn.Decide node session)) drawn
  pub settled : AtNode (at_begin_answer script session node u drawn).played node (λ i. least_unsettled i.requests (stamp_drawn serving) ≡ None)

abbrev pub RunsGrantBegins : Type 0
RunsGrantBegins =
    (script : ScriptData) (session node : ℕ) (to : Target) (u : UpToDraw) (drawn later : List Turn) → AreInRange script.setup → IsPlayable script 0 script.lines → IsAhead script (at_ask script u) (Session session) (verb.Begin to) → node_aimed script (at_ask script u) u.aim to ≡ node → (can : CanBeginBy script session node u drawn) →
    item.Begin session (stamp_drawn can.serving) ∈ carried_items script (all_up_to_draw session node u (drawn ++ turn.Answer node session ∷ later))

-- ---- a commit
-- the two turns by which a commit that was drawn ends: the node places it and answers, or it answers and the session places it, by a
-- turn with some aim
abbrev pub settling_turns : Bool → ℕ → ℕ → ℕ → Turn × Turn
settling_turns false aim session node = (turn.Put node session, turn.Answer node session)
settling_turns true aim session node = (turn.Answer node session, turn.Own (Session session) aim)

-- what was carried out when the first of them is made
abbrev pub at_settle : ScriptData → ℕ → ℕ → UpToDraw → List Turn → Carried
at_settle script session node u drawn = with_others script (at_draw script session node u) (turn.Decide node session) drawn

-- the node places the commit of the start, and then answers
pub record PlacesAtNode (script : ScriptData) (session node start : ℕ) (c : Carried) (placed : List Turn) : Type 0 where
  -- at the placing nobody has marked the transaction
  pub unmarked : Marked c.played.state.pairs start → ⊥
  -- and the next call on the commit table works
  pub placing : next_fate script c.played Table ≡ Works
  -- the turns of others leave the request
  pub until_answered : Leave script node session (turned script c (turn.Put node session)) placed

-- none of these turns is the session's own
unfoldable pub NoneOwn : ℕ → List Turn → Type 0
NoneOwn session [] = Unit {0}
NoneOwn session (t ∷ turns) = (is_own session t ≡ false) × NoneOwn session turns

-- the node hands the commit over, and the session's next turn places it
pub record PlacesBySession (script : ScriptData) (aim session node start : ℕ) (c : Carried) (handed : List Turn) : Type 0 where
  -- when it is handed the commit, the session waits for it
  pub client : Client
  pub session_is : ClientAt c.played.state.clients session client
  pub waits : client.entry.state ≡ phase.Committing
  pub until_placed : NoneOwn session handed
  -- its line makes the placing, as a commit line that has asked does (`CommitLinesPlace`)
  pub steps : own_ahead script (with_others script c (turn.Answer node session) handed) (Session session) aim ≡ Makes (event.Step session)
  -- at the placing nobody has marked the transaction
  pub unmarked : Marked (with_others script c (turn.Answer node session) handed).played.state.pairs start → ⊥
  -- and the next call on the commit table works
  pub placing : next_fate script (with_others script c (turn.Answer node session) handed).played Table ≡ Works

-- a commit line that has asked goes on with the placing of a commit that was handed over
abbrev pub CommitLinesPlace : Type 0
CommitLinesPlace =
    (script : ScriptData) (turns : List Turn) (aim session start commit : ℕ) (to : Target) → let c = carried script turns in AreInRange script.setup → IsPlayable script 0 script.lines → HasAsked script c (Session session) (verb.Commit to) → IsPlacing c.played session start commit →
    own_ahead script c (Session session) aim ≡ Makes (event.Step session)

-- by the form of the script
abbrev pub Settles : Bool → ScriptData → ℕ → ℕ → ℕ → ℕ → Carried → List Turn → Type 0
Settles false script aim session node start c turns = PlacesAtNode script session node start c turns
Settles true script aim session node start c turns = PlacesBySession script aim session node start c turns

-- `drawn` are the turns of others between the draw and the first turn that settles the commit, `between` those between the two, and
-- `aim` is that of the session's turn where it places the commit
pub record CanCommitBy (script : ScriptData) (aim session node : ℕ) (u : UpToDraw) (drawn between : List Turn) : Type 0 where
  -- when the session asks
  pub work : IsAtWork (at_ask script u).played session
  -- it has written
  pub wrote : work.client.entry.keys ≢ []
  -- the node serves its request as far as to its stamp
  pub serving : CanServeBy script session node u
  -- at the acceptance the transaction began above the instance's epoch
  pub in_epoch : AtNode (at_accept script session u).played node (λ i. i.epoch < work.start)
  -- at the draw the conflict memory has nothing against the keys that it wrote, nor against those that its client keeps of what
  -- it read
  pub no_conflict : AtBoth (at_draw script session node u).played node session (λ i c. verdict_both i.buckets work.start work.client.entry.keys c.reads ≡ Free)
  -- the turns of others leave the request
  pub until_settled : Leave script node session (turned script (at_draw script session node u) (turn.Decide node session)) drawn
  -- the node places it, or the session does
  pub settles : Settles script.setup.direct script aim session node work.start (at_settle script session node u drawn) between

-- the line asks the node for a commit, its share being aimed so: it waits for the answer, or leaves that to a later line
abbrev pub AsksCommit : ScriptData → Carried → ℕ → ℕ → Verb → Type 0
AsksCommit script c aim node (verb.Commit to) = node_aimed script c aim to ≡ node
AsksCommit script c aim node (verb.Submit to) = node_aimed script c aim to ≡ node
AsksCommit script c aim node _ = ⊥

abbrev pub RunsGrantCommits : Type 0
RunsGrantCommits =
    (script : ScriptData) (aim session node : ℕ) (line : Verb) (u : UpToDraw) (drawn between later : List Turn) → let settling = settling_turns script.setup.direct aim session node in AreInRange script.setup → IsPlayable script 0 script.lines → IsAhead script (at_ask script u) (Session session) line → AsksCommit script (at_ask script u) u.aim node line → (can : CanCommitBy script aim session node u drawn between) →
    item.Committed session can.work.start (stamp_drawn can.serving) ∈ carried_items script (all_up_to_draw session node u (drawn ++ settling.0 ∷ (between ++ settling.1 ∷ later)))

-- ---- a read
-- on each own turn while a read is under way, the call that the read makes works
unfoldable pub StepsWork : ScriptData → ℕ → Carried → List Turn → Type 0
StepsWork script session c [] = Unit {0}
StepsWork script session c (t ∷ turns) = (is_own session t ≡ true → (start key : ℕ) (r : Reading) → ReadsKey c.played session start key r → next_fate script c.played (store_of (read_ask r)) ≡ Works) × StepsWork script session (turned script c t) turns

-- a read line has its answer once as many own turns are made as three for each cell without a shadow, whatever turns of others are made in between
abbrev pub RunsGrantReads : Type 0
RunsGrantReads =
    (script : ScriptData) (before turns later : List Turn) (aim session key : ℕ) → let c = carried script before in let fetched = turned script c (turn.Own (Session session) aim) in AreInRange script.setup → IsPlayable script 0 script.lines → IsAhead script c (Session session) (verb.Read key) → (can : CanFetch script c.played session key) → StepsWork script session fetched turns → 3 * cells_to_read c.played can.work.start key ≤ length (filter (is_own session) turns) →
    (answer : Option Found) × (item.Read session can.work.start key answer ∈ carried_items script (before ++ turn.Own (Session session) aim ∷ (turns ++ later)))
