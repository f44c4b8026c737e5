-- What is granted to the lines of a script that is carried out by turns: an own turn that makes what its line asks for, and the
-- turns by which the stages of a node serve a request, each under its premises when it is made, whatever turns came before.
use Rattle.std.specs.Prelude.{length, ◌≡◌, ℕ, ◌+◌, ◌<◌, ◌≤◌, ◌^◌, ◌*◌, ◌⊎◌, ◌==◌, ◌&&◌, Bool, false, List, [], ◌∷◌, ◌++◌, Option, None, Some, IfSome}
use Rattle.std.specs.List.{filter}
use Rattle.stamp_base.specs.SetupNumbers.{AreInRange}
use Rattle.stamp_base.specs.declared.stores.Store.TheVariants.{Table, Master}
use Rattle.port_io.specs.declared.weather.Fate.TheVariants.{Works}
use Rattle.history_book.specs.declared.item.Actor.TheVariants.{Node, Session}
use Rattle.history_book.specs.declared.item.Found.{Found}
use Rattle.history_book.specs.declared.item.Item.{Item}
use Rattle.history_book.specs.declared.item.Item.TheVariants as item
use Rattle.history_book.specs.declared.item.StoreStep.TheVariants.{Handed}
use Rattle.system_parts.specs.declared.session.State.TheVariants as phase
use Rattle.system_parts.specs.Resolve.{settle_left}
use Rattle.system_parts.specs.KeyRead.{Reading, read_ask}
use Rattle.system_parts.specs.declared.buckets.Verdict.TheVariants.{Free}
use Rattle.system_parts.specs.declared.instance.Progress.{Progress}
use Rattle.system_parts.specs.declared.instance.Progress.TheVariants as progress
use Rattle.system_parts.specs.declared.instance.Request.{Request}
use Rattle.system_parts.specs.declared.instance.Request.TheVariants.{Begin, Commit}
use Rattle.system_parts.specs.declared.instance.Settled.TheVariants as how
use Rattle.system_parts.specs.Instance.{InstanceEntry, least_unsettled}
use Rattle.system_parts.specs.InstanceSteps.{drawn_as, epoch_refusal}
use Rattle.machine.specs.State.{Reads, Client}
use Rattle.machine.specs.StoreSteps.{store_of}
use Rattle.machine.specs.declared.event.Event.{Event}
use Rattle.machine.specs.declared.event.Event.TheVariants as event
use Rattle.machine.specs.Events.Decide.{draw_item, both_verdict}
use Rattle.script_data.specs.Data.{ScriptData}
use Rattle.isolation_laws.specs.Bare.{is_bare}
use Rattle.isolation_laws.specs.Words.{InstanceAt, HeldBy, ClientAt, Marked}
use Rattle.command_semantics.specs.Laws.{IsPlayable}
use Rattle.command_semantics.specs.Runs.{Played}
use Rattle.turn_rules.specs.declared.ahead.NextAction.TheVariants.{Makes}
use Rattle.turn_rules.specs.declared.turn.Turn.{Turn}
use Rattle.turn_rules.specs.declared.turn.Turn.TheVariants as turn
use Rattle.turn_rules.specs.Carried.{Carried, own_ahead, event_of, turned, carried}
use Rattle.grant_laws.specs.Granted.{reading_of, next_fate, Appends}
use Rattle.grant_laws.specs.Premises.{CanWrite, CanTake, cells_to_read, CanFetch}

-- the turn appends the item alone
abbrev pub Adds : ScriptData → Carried → Turn → Item → Type 0
Adds script c t x = (turned script c t).played.items ≡ c.played.items ++ x ∷ []

-- ---- own turns
-- an own turn that makes a write appends it
abbrev pub WritesAreCarried : Type 0
WritesAreCarried =
    (script : ScriptData) (turns : List Turn) (aim session key : ℕ) (value : List ℕ) → let c = carried script turns in own_ahead script c (Session session) aim ≡ Makes (event.Write session key value) → (can : CanWrite script c.played session key) →
    Adds script c (turn.Own (Session session) aim) (item.Write session can.work.start key value)

-- an own turn that takes the record appends the take
abbrev pub TakesAreCarried : Type 0
TakesAreCarried =
    (script : ScriptData) (turns : List Turn) (aim node : ℕ) → let c = carried script turns in AreInRange script.setup → IsPlayable script 0 script.lines → own_ahead script c (Node node) aim ≡ Makes (event.Take node (reading_of script c.played node)) → CanTake script c.played node →
    Adds script c (turn.Own (Node node) aim) (item.Take node (reading_of script c.played node) (c.played.state.master.term + 1) c.played.state.master.ceiling (reading_of script c.played node + script.setup.lease) (c.played.state.master.ceiling + script.setup.range))

-- ---- turns that serve a request
-- the node's instance holds this request of the session, which has come so far
pub record IsServed (p : Played) (node session : ℕ) (request : Request) (progress : Progress) : Type 0 where
  pub oracle : InstanceEntry
  pub node_has : InstanceAt p.state.nodes node oracle
  pub held : HeldBy oracle session request progress

-- the turn appends the item alone, and the request has come so far
pub record Serves (script : ScriptData) (c : Carried) (t : Turn) (x : Item) (node session : ℕ) (request : Request) (progress : Progress) : Type 0 where
  pub adds : Adds script c t x
  pub comes : IsServed (turned script c t).played node session request progress

-- the session is to place this commit
pub record IsPlacing (p : Played) (session start commit : ℕ) : Type 0 where
  pub client : Client
  pub session_is : ClientAt p.state.clients session client
  pub in_work : client.entry.state ≡ phase.Placing
  pub begun : client.entry.start ≡ Some start
  pub commit_is : client.entry.commit ≡ Some commit

-- the turn hands the commit to its session
pub record Hands (script : ScriptData) (c : Carried) (node session start commit : ℕ) : Type 0 where
  pub adds : Adds script c (turn.Answer node session) (item.Step (Session session) (Handed start commit))
  pub comes : IsPlacing (turned script c (turn.Answer node session)).played session start commit

-- in every state that turns lead to, the turn that serves the request next does so: the acceptance where the lease stands and a
-- commit began above the epoch, the draw where the conflict memory is free of the commit's keys and of those that its client keeps
-- of what it read, and a stamp is left, the placing where nobody has marked the transaction and the commit table's next call works,
-- and the answers: a commit that its session is to place is handed to it, unless it has vanished
pub record ServedAreGranted (script : ScriptData) (c : Carried) (node session : ℕ) (request : Request) : Type 0 where
  pub accepts : (k : IsServed c.played node session request progress.Asked) → reading_of script c.played node < k.oracle.until → epoch_refusal k.oracle request ≡ None →
      Serves script c (turn.Accept node session) (item.Accept session node k.oracle.term (reading_of script c.played node)) node session request progress.Accepted
  pub draws : (k : IsServed c.played node session request progress.Accepted) → (client : Client) → ClientAt c.played.state.clients session client → both_verdict k.oracle.buckets client.reads request ≡ Free → k.oracle.last < k.oracle.ceiling →
      Serves script c (turn.Decide node session) (draw_item node k.oracle.term request (k.oracle.last + 1)) node session request (drawn_as k.oracle.direct request (k.oracle.last + 1))
  pub places : (start commit : ℕ) (keys : List ℕ) → request ≡ Commit session start keys → IsServed c.played node session request (progress.Drawn commit) → (Marked c.played.state.pairs start → ⊥) → next_fate script c.played Table ≡ Works →
      Serves script c (turn.Put node session) (item.Placed start commit) node session request (progress.Settled commit how.Placed)
  pub commits : (start commit : ℕ) (keys : List ℕ) → request ≡ Commit session start keys → IsServed c.played node session request (progress.Settled commit how.Placed) → Adds script c (turn.Answer node session) (item.Committed session start commit)
  pub hands : (start commit : ℕ) (keys : List ℕ) → request ≡ Commit session start keys → IsServed c.played node session request (progress.Handed commit) → (client : Client) → ClientAt c.played.state.clients session client → client.entry.state ≡ phase.Committing → Hands script c node session start commit
  pub begins : (start : ℕ) → request ≡ Begin session → (k : IsServed c.played node session request (progress.Drawn start)) → least_unsettled k.oracle.requests start ≡ None → Adds script c (turn.Answer node session) (item.Begin session start)

abbrev pub ServedTurnsAreGranted : Type 0
ServedTurnsAreGranted = (script : ScriptData) (turns : List Turn) (node session : ℕ) (request : Request) → AreInRange script.setup → IsPlayable script 0 script.lines → ServedAreGranted script (carried script turns) node session request

-- ---- a commit that its session places
-- an own turn that makes the placing appends the commit, where nobody has marked the transaction and the commit table's next call
-- works
abbrev pub PlacingsAreCarried : Type 0
PlacingsAreCarried =
    (script : ScriptData) (turns : List Turn) (aim session start commit : ℕ) → let c = carried script turns in AreInRange script.setup → IsPlayable script 0 script.lines → own_ahead script c (Session session) aim ≡ Makes (event.Step session) → IsPlacing c.played session start commit → (Marked c.played.state.pairs start → ⊥) → next_fate script c.played Table ≡ Works →
    (turned script c (turn.Own (Session session) aim)).played.items ≡ c.played.items ++ item.Placed start commit ∷ item.Committed session start commit ∷ []

-- an extension that is due gives the node's instance stamps again
abbrev pub ExtensionsAreCarried : Type 0
ExtensionsAreCarried =
    (script : ScriptData) (turns : List Turn) (node : ℕ) (oracle : InstanceEntry) → let c = carried script turns in AreInRange script.setup → IsPlayable script 0 script.lines → InstanceAt c.played.state.nodes node oracle → oracle.term ≡ c.played.state.master.term → c.played.state.master.ceiling + script.setup.range ≤ 2 ^ 62 → next_fate script c.played Master ≡ Works →
    Adds script c (turn.Extend node) (item.Extend node oracle.term (c.played.state.master.ceiling + script.setup.range))

-- ---- requests in between
-- the event asks for the session at the node, serves its request there, or ends the node's instance
abbrev pub touches : ℕ → ℕ → Event → Bool
touches node session (event.Crash n) = n == node
touches node session (event.AskBegin s n) = (n == node) && (s == session)
touches node session (event.AskCommit s n) = (n == node) && (s == session)
touches node session (event.Accept n s reading) = (n == node) && (s == session)
touches node session (event.Decide n s) = (n == node) && (s == session)
touches node session (event.Put n s) = (n == node) && (s == session)
touches node session (event.Answer n s) = (n == node) && (s == session)
touches node session _ = false

-- every other turn leaves the request as far as it has come
abbrev pub RequestsStay : Type 0
RequestsStay =
    (script : ScriptData) (turns : List Turn) (t : Turn) (node session : ℕ) (request : Request) (progress : Progress) → let c = carried script turns in IfSome (event_of script c t) (λ e. touches node session e ≡ false) → IsServed c.played node session request progress →
    IsServed (turned script c t).played node session request progress

-- ---- reads
-- the session reads the key by its start, and this read is under way
pub record ReadsKey (p : Played) (session start key : ℕ) (r : Reading) : Type 0 where
  pub client : Client
  pub session_is : ClientAt p.state.clients session client
  pub in_work : client.entry.state ≡ phase.Open
  pub under_way : client.under_way ≡ Reads r
  pub key_is : r.key ≡ key
  pub start_is : r.start ≡ start

-- the steps that a read under way can make at most: those of its cell, and three for each cell behind it without a shadow
abbrev pub read_steps : Reading → ℕ
read_steps r = 3 * length (filter is_bare r.older) + settle_left r.point

-- the turn has appended the read's answer, or fewer steps are left than these
pub record GoesOn (p : Played) (session start key most : ℕ) : Type 0 where
  pub later : Reading
  pub reads : ReadsKey p session start key later
  pub fewer : read_steps later < most

abbrev pub AnswersOr : Played → Played → ℕ → ℕ → ℕ → ℕ → Type 0
AnswersOr before after session start key most = ((answer : Option Found) × Appends before.items after.items (item.Read session start key answer)) ⊎ GoesOn after session start key most

-- an own turn that makes a step of a read, no call of which fails now, appends the answer or leaves fewer steps; so does the fetch
-- that begins it, which leaves at most three for each cell without a shadow
pub record ReadsAreCarried : Type 0 where
  pub steps : (script : ScriptData) (turns : List Turn) (aim session start key : ℕ) (r : Reading) → let c = carried script turns in own_ahead script c (Session session) aim ≡ Makes (event.Step session) → ReadsKey c.played session start key r → next_fate script c.played (store_of (read_ask r)) ≡ Works →
      AnswersOr c.played (turned script c (turn.Own (Session session) aim)).played session start key (read_steps r)
  pub fetches : (script : ScriptData) (turns : List Turn) (aim session key : ℕ) → let c = carried script turns in AreInRange script.setup → IsPlayable script 0 script.lines → own_ahead script c (Session session) aim ≡ Makes (event.Fetch session key) → (can : CanFetch script c.played session key) →
      AnswersOr c.played (turned script c (turn.Own (Session session) aim)).played session can.work.start key (3 * cells_to_read c.played can.work.start key + 1)
