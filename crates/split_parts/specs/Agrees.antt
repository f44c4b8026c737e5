-- Which parts an event has to do with, and in which facts they must agree, so that the event can be made.
use Rattle.std.specs.Prelude.{◌≡◌, ◌≢◌, ℕ, ◌+◌, ◌<◌, ◌≤◌, ◌^◌, slice_index_or, Option, None, Some, IfSome, IsSome, IsSomeAnd}
use Rattle.stamp_base.specs.declared.stores.Mark.TheVariants.{Committed}
use Rattle.stamp_base.specs.declared.stores.Store.{Store}
use Rattle.stamp_base.specs.declared.stores.Store.TheVariants as store
use Rattle.script_data.specs.declared.line.Target.{Target}
use Rattle.script_data.specs.declared.line.Target.TheVariants as target
use Rattle.system_parts.specs.Pairs.{Pairs, mark_of}
use Rattle.system_parts.specs.Rows.{IsBare}
use Rattle.system_parts.specs.declared.session.State as state
use Rattle.system_parts.specs.SessionSteps.{SessionEntry}
use Rattle.system_parts.specs.declared.instance.Held.{Held}
use Rattle.system_parts.specs.declared.instance.Request.{Request}
use Rattle.system_parts.specs.declared.instance.Request.TheVariants.{Begin, Commit}
use Rattle.system_parts.specs.Instance.{InstanceEntry, held_of}
use Rattle.machine.specs.State.{Client, State}
use Rattle.machine.specs.Calls.{HoldsNone}
use Rattle.machine.specs.Events.Put.{to_place}
use Rattle.isolation_laws.specs.Words.{ClientAt}
use Rattle.cause_laws.specs.RequestCalls.{PostAt}
use Rattle.cluster_core.specs.Required.{MayExtend, MayHeal, MayMakeStep, MaySweep}
use Rattle.cluster_core.specs.Served.{held_in}
use Rattle.split_parts.specs.declared.event.Event.{Event}
use Rattle.split_parts.specs.declared.event.Event.TheVariants as event
use Rattle.split_parts.specs.Parts.{Parts, filled, base_by, node_asked}
use Rattle.split_parts.specs.Acts.{timed_by, asked_of}

-- ---- the parts that an event has to do with
abbrev pub HasSession : Parts → ℕ → Type 0
HasSession l session = IsSomeAnd (slice_index_or l.sessions session None) (λ s. s.number ≡ session)

abbrev pub HasNode : Parts → ℕ → Type 0
HasNode l node = IsSomeAnd l.node (λ n. n.node ≡ node)

abbrev pub HasStore : Parts → Option Store → Type 0
HasStore l None = Unit {0}
HasStore l (Some store.Cells) = IsSome l.cells
HasStore l (Some store.Table) = IsSome l.table
HasStore l (Some store.Master) = IsSome l.master

-- who asks the master looks at the record
abbrev pub HasRecordFor : Parts → Target → Type 0
HasRecordFor l (target.Node node) = Unit {0}
HasRecordFor l target.Master = IsSome l.master

abbrev pub HasParts : Parts → Event → Type 0
HasParts l (event.Tick by) = IsSome l.clock
HasParts l (event.Note actor note) = IsSome l.names
HasParts l (event.Take node) = IsSome l.clock × HasNode l node × IsSome l.master
HasParts l (event.Renew node) = IsSome l.clock × HasNode l node × IsSome l.master
HasParts l (event.Extend node) = HasNode l node × IsSome l.master
HasParts l (event.Crash node) = ((session : ℕ) → session < 16 → HasSession l session) × HasNode l node
HasParts l (event.AskBegin session to) = HasSession l session × HasNode l (node_asked l to) × HasRecordFor l to
HasParts l (event.AskCommit session to) = HasSession l session × HasNode l (node_asked l to) × HasRecordFor l to
HasParts l (event.Accept node session) = HasSession l session × IsSome l.clock × HasNode l node
HasParts l (event.Decide node session) = HasSession l session × HasNode l node
HasParts l (event.Put node session) = HasNode l node × IsSome l.table
HasParts l (event.Answer node session) = HasSession l session × HasNode l node
HasParts l (event.Write session key value) = HasSession l session × IsSome l.cells
HasParts l (event.Fetch session key) = HasSession l session × IsSome l.cells
HasParts l (event.Step session) = HasSession l session × HasStore l (asked_of l (timed_by l (event.Step session)))
HasParts l (event.Heal session) = HasSession l session × IsSome l.cells
HasParts l (event.Abort session) = HasSession l session
HasParts l (event.Vanish session) = HasSession l session
HasParts l (event.SweepOpen node txn) = IsSome l.janitor × HasNode l node
HasParts l event.SweepStep = IsSome l.janitor × HasStore l (asked_of l (timed_by l event.SweepStep))

-- ---- numbers
-- the base clock stays far from the end of the numbers
abbrev pub ClockAllows : ℕ → Event → Type 0
ClockAllows base (event.Tick by) = base + by ≤ 2 ^ 60
ClockAllows base (event.Take node) = base ≤ 2 ^ 60
ClockAllows base (event.Renew node) = base ≤ 2 ^ 60
ClockAllows base (event.Accept node session) = base ≤ 2 ^ 60
ClockAllows base _ = Unit {0}

abbrev pub ClockFits : Parts → Event → Type 0
ClockFits l e = ClockAllows (base_by l.clock) e

-- so does the count of calls on the store that the event has to do with
abbrev pub CallsFit : Parts → Option Store → Type 0
CallsFit l None = Unit {0}
CallsFit l (Some store.Cells) = IfSome l.cells (λ part. part.calls < 2 ^ 60)
CallsFit l (Some store.Table) = IfSome l.table (λ part. part.calls < 2 ^ 60)
CallsFit l (Some store.Master) = IfSome l.master (λ part. part.calls < 2 ^ 60)

abbrev pub store_by : Parts → Event → Option Store
store_by l (event.Take node) = Some store.Master
store_by l (event.Renew node) = Some store.Master
store_by l (event.Extend node) = Some store.Master
store_by l (event.Put node session) = Some store.Table
store_by l (event.Write session key value) = Some store.Cells
store_by l (event.Fetch session key) = Some store.Cells
store_by l (event.Heal session) = Some store.Cells
store_by l e = asked_of l (timed_by l e)

-- ---- a session and a node
-- the node holds no request of a session that is in this state
abbrev pub HoldsNoneIn : state.State → State → ℕ → ℕ → Type 0
HoldsNoneIn at w session node = (c : Client) (post : Option InstanceEntry) → ClientAt w.clients session c → PostAt w node post → c.entry.state ≡ at → HoldsNone post session

-- the session of a request has asked for just that, unless it has vanished
abbrev pub HasAsked : Request → SessionEntry → Type 0
HasAsked (Begin session) e = e.state ≢ state.TheVariants.Gone → e.state ≡ state.TheVariants.Asking
HasAsked (Commit session start keys) e = e.state ≢ state.TheVariants.Gone → (e.state ≡ state.TheVariants.Committing) × (e.start ≡ Some start) × (e.keys ≡ keys)

abbrev pub HasAskedIf : Option Held → SessionEntry → Type 0
HasAskedIf None e = Unit {0}
HasAskedIf (Some held) e = HasAsked held.request e

abbrev pub HasAskedAt : Option InstanceEntry → ℕ → SessionEntry → Type 0
HasAskedAt None session e = Unit {0}
HasAskedAt (Some i) session e = HasAskedIf (held_of i session) e

abbrev pub IsAsked : State → ℕ → ℕ → Type 0
IsAsked w node session = (post : Option InstanceEntry) (c : Client) → PostAt w node post → ClientAt w.clients session c → HasAskedAt post session c.entry

-- ---- stores
-- where the session has a transaction, the cell of its write is bare
abbrev pub WritesBare : State → ℕ → ℕ → Type 0
WritesBare w session key = (c : Client) → ClientAt w.clients session c → c.entry.state ≡ state.TheVariants.Open → IfSome c.entry.start (λ start. IsBare w.rows key start)

-- the table has no commit of the transaction whose commit the node is to place
abbrev pub NotPlaced : Pairs → Option (ℕ × ℕ) → Type 0
NotPlaced pairs None = Unit {0}
NotPlaced pairs (Some stamps) = (commit : ℕ) → mark_of pairs stamps.0 ≡ Some (Committed commit) → ⊥

-- ---- all of it
abbrev pub Fits : Parts → Event → Type 0
Fits l (event.Extend node) = MayExtend (filled l) node
Fits l (event.Crash node) = (session : ℕ) → IsAsked (filled l) node session
Fits l (event.AskBegin session to) = HoldsNoneIn state.TheVariants.Free (filled l) session (node_asked l to)
Fits l (event.AskCommit session to) = HoldsNoneIn state.TheVariants.Open (filled l) session (node_asked l to)
Fits l (event.Accept node session) = IsAsked (filled l) node session
Fits l (event.Decide node session) = IsAsked (filled l) node session
Fits l (event.Put node session) = NotPlaced (filled l).pairs (to_place (held_in (filled l) node session))
Fits l (event.Answer node session) = IsAsked (filled l) node session
Fits l (event.Write session key value) = WritesBare (filled l) session key
Fits l (event.Step session) = MayMakeStep (filled l) session
Fits l (event.Heal session) = MayHeal (filled l) session
Fits l event.SweepStep = MaySweep (filled l)
Fits l _ = Unit {0}

-- the parts agree, as far as the event has to do with them
pub record Agrees (l : Parts) (e : Event) : Type 0 where
  pub clock : ClockFits l e
  pub calls : CallsFit l (store_by l e)
  pub parts : Fits l e
