-- Which turns can be made.
use Rattle.std.specs.Prelude.{◌≡◌, ◌≢◌, ℕ, ◌==◌, if◌then◌else◌, Bool, true, false, List, [], slice_get, Option, None, Some, IsSomeAnd}
use Rattle.std.specs.List.{list_any}
use Rattle.stamp_base.specs.declared.stage.Stage.{Stage}
use Rattle.stamp_base.specs.declared.stage.Stage.TheVariants.{Request, Persist, Reply}
use Rattle.history_book.specs.declared.item.Actor.TheVariants.{Session}
use Rattle.history_book.specs.Members.{AtEach}
use Rattle.system_parts.specs.declared.instance.Held.{Held}
use Rattle.system_parts.specs.declared.instance.Place.{Place}
use Rattle.system_parts.specs.declared.instance.Place.TheVariants as place
use Rattle.system_parts.specs.declared.instance.Progress.{Progress}
use Rattle.system_parts.specs.declared.instance.Progress.TheVariants as progress
use Rattle.system_parts.specs.Instance.{InstanceEntry}
use Rattle.machine.specs.declared.event.Event.{Event}
use Rattle.machine.specs.declared.event.Event.TheVariants as event
use Rattle.machine.specs.State.{State}
use Rattle.script_data.specs.Data.{ScriptData}
use Rattle.command_semantics.specs.declared.point.View.{View}
use Rattle.command_semantics.specs.Runs.{Played, step_of}
use Rattle.command_semantics.specs.Views.{view_of}
use Rattle.turn_rules.specs.declared.seat.Holds.{Holds}
use Rattle.turn_rules.specs.declared.turn.Turn.{Turn}
use Rattle.turn_rules.specs.declared.turn.Turn.TheVariants as turn
use Rattle.turn_rules.specs.Carried.{Carried, is_held, holds_at, event_of, carried}

-- ---- the stage that makes a turn is not held
abbrev pub stage_of : Turn → Option (ℕ × Stage)
stage_of (turn.Own actor aim) = None
stage_of (turn.Accept node session) = Some (node, Request)
stage_of (turn.Decide node session) = Some (node, Request)
stage_of (turn.Put node session) = Some (node, Persist)
stage_of (turn.Answer node session) = Some (node, Reply)
stage_of (turn.Extend node) = Some (node, Request)

abbrev pub IsFree : List Holds → Option (ℕ × Stage) → Type 0
IsFree held None = Unit {0}
IsFree held (Some stage) = is_held (holds_at held stage.0) stage.1 ≡ false

-- ---- the session's request at the node stands where the event is made
-- a begin is answered once it is drawn, and a commit once it is settled
abbrev pub answered_from : Bool → Place
answered_from false = place.Drawn
answered_from true = place.Settled

abbrev pub is_accepted_by : Progress → Bool
is_accepted_by progress.Accepted = true
is_accepted_by _ = false

abbrev pub is_accepted : Option Held → Bool
is_accepted None = false
is_accepted (Some held) = is_accepted_by held.progress

-- the instance has no stamp left, and a request waits there for one
abbrev pub LacksStamps : Option (Option InstanceEntry) → Type 0
LacksStamps (Some (Some i)) = (i.last ≡ i.ceiling) × (list_any is_accepted i.requests ≡ true)
LacksStamps _ = ⊥

abbrev pub session_view : State → ℕ → View
session_view w session = view_of w (Session session)

abbrev pub IsInPlace : State → Turn → Type 0
IsInPlace w (turn.Own actor aim) = Unit {0}
IsInPlace w (turn.Accept node session) = (session_view w session).request ≡ Some (node, place.Asked)
IsInPlace w (turn.Decide node session) = (session_view w session).request ≡ Some (node, place.Accepted)
IsInPlace w (turn.Put node session) = ((session_view w session).request ≡ Some (node, place.Drawn)) × ((session_view w session).commit ≡ true)
IsInPlace w (turn.Answer node session) = (session_view w session).request ≡ Some (node, answered_from (session_view w session).commit)
IsInPlace w (turn.Extend node) = LacksStamps (slice_get w.nodes node)

-- the turn by which a stage serves a request from this place on, if it does
abbrev pub serving_turn : Stage → ℕ → ℕ → Bool → Place → Option Turn
serving_turn Request node session commit place.Asked = Some (turn.Accept node session)
serving_turn Request node session commit place.Accepted = Some (turn.Decide node session)
serving_turn Persist node session true place.Drawn = Some (turn.Put node session)
serving_turn Reply node session false place.Drawn = Some (turn.Answer node session)
serving_turn Reply node session true place.Settled = Some (turn.Answer node session)
serving_turn _ node session commit at = None

abbrev pub serving_turn_of : Stage → ℕ → ℕ → Bool → Option (ℕ × Place) → Option Turn
serving_turn_of stage node session commit None = None
serving_turn_of stage node session commit (Some request) = if request.0 == node then serving_turn stage node session commit request.1 else None

-- the turn that a node's stage can make of a session's request as it stands
abbrev pub stage_turn : Stage → ℕ → ℕ → View → Option Turn
stage_turn stage node session view = serving_turn_of stage node session view.commit view.request

-- ---- turns whose event appends nothing are left out, but for those that open a sweep
abbrev pub IsTold : ScriptData → Played → Event → Type 0
IsTold script p (event.SweepOpen node txn) = Unit {0}
IsTold script p e = (step_of script p e).items ≢ []

-- the turn can be made, and is to be among the turns
pub record IsLawful (script : ScriptData) (c : Carried) (turn : Turn) : Type 0 where
  pub free : IsFree c.held (stage_of turn)
  pub in_place : IsInPlace c.played.state turn
  pub told : IsSomeAnd (event_of script c turn) (λ e. IsTold script c.played e)

-- each turn is lawful after those before it
abbrev pub AreLawful : ScriptData → List Turn → Type 0
AreLawful script turns = AtEach (λ before turn. IsLawful script (carried script before) turn) turns
