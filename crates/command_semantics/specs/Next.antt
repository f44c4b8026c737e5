-- The next event of a line, by where its run stands and by what the run looks at. No event is next where the run is over.
use Rattle.std.specs.Prelude.{ℕ, ◌+◌, Bool, true, false, List, slice_index_or, Option, None, Some, if◌then◌else◌}
use Rattle.history_book.specs.declared.item.Actor.{Actor}
use Rattle.history_book.specs.declared.item.Actor.TheVariants.{Clock, Node, Session, Janitor}
use Rattle.history_book.specs.declared.item.Note.TheVariants as note
use Rattle.system_parts.specs.declared.instance.Place.{Place}
use Rattle.system_parts.specs.declared.instance.Place.TheVariants as place
use Rattle.machine.specs.declared.event.Doing.{Doing}
use Rattle.machine.specs.declared.event.Doing.TheVariants as doing
use Rattle.machine.specs.declared.event.Event.{Event}
use Rattle.machine.specs.declared.event.Event.TheVariants as event
use Rattle.script_data.specs.declared.line.Target.{Target}
use Rattle.script_data.specs.declared.line.Target.TheVariants as target
use Rattle.script_data.specs.declared.line.Verb.{Verb}
use Rattle.script_data.specs.declared.line.Verb.TheVariants as verb
use Rattle.command_semantics.specs.declared.point.Point.{Point}
use Rattle.command_semantics.specs.declared.point.Point.TheVariants.{Opens, Drives, Extends, Finishes, Reads, Steps, Over}
use Rattle.command_semantics.specs.declared.point.View.{View}

-- the base clock, the lead of each node's clock, and the node that a line asks which names the master
pub record Clocks : Type 0 where
  pub base : ℕ
  pub leads : List ℕ
  pub master : ℕ

-- what a node's clock shows
abbrev pub reading_at : Clocks → ℕ → ℕ
reading_at clocks node = clocks.base + slice_index_or clocks.leads node 0

-- the node that a line asks
abbrev pub asked_node : ℕ → Target → ℕ
asked_node master (target.Node node) = node
asked_node master target.Master = master

abbrev pub target_node : Clocks → Target → ℕ
target_node clocks to = asked_node clocks.master to

-- ---- serving a request
-- the event that serves a request of a session at a node from this place on
abbrev pub serves : Clocks → ℕ → ℕ → Bool → Place → Event
serves clocks session node commit place.Asked = event.Accept node session (reading_at clocks node)
serves clocks session node commit place.Accepted = event.Decide node session
serves clocks session node true place.Drawn = event.Put node session
serves clocks session node false place.Drawn = event.Answer node session
serves clocks session node commit place.Settled = event.Answer node session

-- a submit is served to its draw alone, and any other request to its answer
abbrev pub has_drawn : Place → Bool
has_drawn place.Drawn = true
has_drawn place.Settled = true
has_drawn _ = false

abbrev pub is_served : Verb → Place → Bool
is_served (verb.Submit target) at = if has_drawn at then false else true
is_served _ at = true

-- a completion goes on
abbrev pub finish_next : ℕ → Doing → Option Event
finish_next session doing.Completing = Some (event.Step session)
finish_next session _ = None

-- a line that only submits its commit leaves the placing to a later line
abbrev pub places : Verb → Bool
places (verb.Submit to) = false
places _ = true

-- a commit that was handed over is placed, and then a completion goes on
abbrev pub placing_next : ℕ → Doing → Bool → Option Event
placing_next session doing.Placing true = Some (event.Step session)
placing_next session doing placed = finish_next session doing

-- where no request is left, a placing and a completion follow
abbrev pub drive_next : Clocks → ℕ → Verb → View → Option (ℕ × Place) → Option Event
drive_next clocks session verb view None = placing_next session view.doing (places verb)
drive_next clocks session verb view (Some request) =
    if is_served verb request.1 then Some (serves clocks session request.0 view.commit request.1) else None

-- a request that waits for a stamp has its node extend the range
abbrev pub extend_by : ℕ → Place → Option Event
extend_by node place.Accepted = Some (event.Extend node)
extend_by node _ = None

abbrev pub extend_next : Option (ℕ × Place) → Option Event
extend_next None = None
extend_next (Some request) = extend_by request.0 request.1

-- a session with nothing to collect makes a step, which is refused, unless something else of it is under way
abbrev pub idle_next : ℕ → Doing → Option Event
idle_next session doing.Free = Some (event.Step session)
idle_next session doing.Gone = Some (event.Step session)
idle_next session doing.Open = Some (event.Step session)
idle_next session _ = None

abbrev pub collect_next : Clocks → ℕ → View → Option (ℕ × Place) → Option Event
collect_next clocks session view None = idle_next session view.doing
collect_next clocks session view (Some request) = drive_next clocks session verb.Collect view (Some request)

-- ---- going on with what is under way
abbrev pub read_next : ℕ → Doing → Option Event
read_next session doing.Reading = Some (event.Step session)
read_next session _ = None

abbrev pub steps_next : ℕ → Doing → Option Event
steps_next session doing.Reading = Some (event.Step session)
steps_next session doing.Placing = Some (event.Step session)
steps_next session doing.OpenOutcome = Some (event.Step session)
steps_next session doing.Completing = Some (event.Step session)
steps_next session _ = None

abbrev pub sweep_next : Bool → Option Event
sweep_next true = Some event.SweepStep
sweep_next false = None

-- ---- the first event of a line
-- an actor of any kind may post a name or await one
abbrev pub name_opens : Actor → Verb → Option Event
name_opens actor (verb.Post name) = Some (event.Note actor (note.Post name))
name_opens actor (verb.Await name) = Some (event.Note actor (note.Await name))
name_opens actor _ = None

abbrev pub clock_opens : ℕ → Verb → Option Event
clock_opens base (verb.Tick by) = Some (event.Tick (base + by))
clock_opens base verb = name_opens Clock verb

abbrev pub node_opens : Clocks → ℕ → Verb → Option Event
node_opens clocks node verb.Take = Some (event.Take node (reading_at clocks node))
node_opens clocks node verb.Renew = Some (event.Renew node (reading_at clocks node))
node_opens clocks node verb.Crash = Some (event.Crash node)
node_opens clocks node verb.Extend = Some (event.Extend node)
node_opens clocks node (verb.Hold stage) = Some (event.Note (Node node) (note.Hold stage))
node_opens clocks node (verb.Free stage) = Some (event.Note (Node node) (note.Free stage))
node_opens clocks node (verb.Accept session) = Some (event.Accept node session (reading_at clocks node))
node_opens clocks node (verb.Decide session) = Some (event.Decide node session)
node_opens clocks node (verb.Put session) = Some (event.Put node session)
node_opens clocks node (verb.Answer session) = Some (event.Answer node session)
node_opens clocks node verb = name_opens (Node node) verb

abbrev pub session_opens : Clocks → ℕ → Verb → View → Option Event
session_opens clocks session (verb.Begin to) view = Some (event.AskBegin session (target_node clocks to))
session_opens clocks session (verb.Commit to) view = Some (event.AskCommit session (target_node clocks to))
session_opens clocks session (verb.Submit to) view = Some (event.AskCommit session (target_node clocks to))
session_opens clocks session (verb.AskBegin node) view = Some (event.AskBegin session node)
session_opens clocks session (verb.AskCommit node) view = Some (event.AskCommit session node)
session_opens clocks session (verb.Write key value) view = Some (event.Write session key value)
session_opens clocks session (verb.Read key) view = Some (event.Fetch session key)
session_opens clocks session (verb.Fetch key) view = Some (event.Fetch session key)
session_opens clocks session verb.Collect view = collect_next clocks session view view.request
session_opens clocks session verb.Abort view = Some (event.Abort session)
session_opens clocks session verb.Heal view = Some (event.Heal session)
session_opens clocks session verb.Vanish view = Some (event.Vanish session)
session_opens clocks session verb.Step view = Some (event.Step session)
session_opens clocks session verb.Finish view = Some (event.Step session)
session_opens clocks session verb view = name_opens (Session session) verb

abbrev pub janitor_opens : Verb → Option Event
janitor_opens (verb.Sweep node txn) = Some (event.SweepOpen node txn)
janitor_opens (verb.OpenSweep node txn) = Some (event.SweepOpen node txn)
janitor_opens verb.Step = Some event.SweepStep
janitor_opens verb.Finish = Some event.SweepStep
janitor_opens verb = name_opens Janitor verb

-- ---- the next event at each point
abbrev pub session_next : Clocks → ℕ → Verb → View → Point → Option Event
session_next clocks session verb view Opens = session_opens clocks session verb view
session_next clocks session verb view Drives = drive_next clocks session verb view view.request
session_next clocks session verb view Extends = extend_next view.request
session_next clocks session verb view Finishes = finish_next session view.doing
session_next clocks session verb view Reads = read_next session view.doing
session_next clocks session verb view Steps = steps_next session view.doing
session_next clocks session verb view Over = None

abbrev pub janitor_next : Verb → View → Point → Option Event
janitor_next verb view Opens = janitor_opens verb
janitor_next verb view Steps = sweep_next view.sweeping
janitor_next verb view _ = None

-- the clock and the nodes have lines of one event
abbrev pub opens_alone : Option Event → Point → Option Event
opens_alone first Opens = first
opens_alone first _ = None

abbrev pub next : Clocks → Actor → Verb → Point → View → Option Event
next clocks Clock verb point view = opens_alone (clock_opens clocks.base verb) point
next clocks (Node node) verb point view = opens_alone (node_opens clocks node verb) point
next clocks (Session session) verb point view = session_next clocks session verb view point
next clocks Janitor verb point view = janitor_next verb view point
