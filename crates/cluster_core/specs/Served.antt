-- Which event serves a request that was accepted, what it needs for that, and what each event leaves of the room and the places.
use Rattle.std.specs.Prelude.{◌≡◌, ◌≤◌, ◌+◌, ℕ, Bool, false, slice_get, Option, None, Some, Result, OnOk}
use Rattle.system_parts.specs.declared.instance.Held.{Held}
use Rattle.system_parts.specs.Instance.{InstanceEntry}
use Rattle.machine.specs.declared.event.Event.{Event}
use Rattle.machine.specs.declared.event.Event.TheVariants as event
use Rattle.machine.specs.State.{State}
use Rattle.machine.specs.Readers.{held_at}
use Rattle.machine.specs.Events.Put.{to_place}
use Rattle.event_parts.specs.declared.stopped.Stopped.{Stopped}
use Rattle.event_parts.specs.Served.{is_to_decide, is_to_put, is_to_answer, HasRoomIf, HasPlaceFor, SpendsIf, places_after}
pub use Rattle.event_parts.specs.Served.{NeverLacks, NeverLacksIf}
use Rattle.node_events.specs.Reserved.{ReservesFive, is_direct, HeldHasPlace, KeepPlaces}
use Rattle.cluster_core.specs.ClusterModel.{ClusterModel}

abbrev pub held_found : Option (Option InstanceEntry) → ℕ → Option Held
held_found None session = None
held_found (Some post) session = held_at post session

-- whether the node hands commits to their sessions
abbrev pub direct_found : Option (Option InstanceEntry) → Bool
direct_found None = false
direct_found (Some post) = is_direct post

abbrev pub direct_in : State → ℕ → Bool
direct_in w node = direct_found (slice_get w.nodes node)

-- the request of a session that a node holds
abbrev pub held_in : State → ℕ → ℕ → Option Held
held_in w node session = held_found (slice_get w.nodes node) session

-- a decision of a request that was accepted, a put of a commit that was drawn, an answer to a begin that was drawn or to a
-- commit that was settled or is to be handed over
abbrev pub is_served : State → Event → Bool
is_served w (event.Decide node session) = is_to_decide (held_in w node session)
is_served w (event.Put node session) = is_to_put (held_in w node session)
is_served w (event.Answer node session) = is_to_answer (held_in w node session)
is_served w _ = false

-- there is room for what such an event appends, and a place for a commit that is to be placed
abbrev pub HasRoomFor : ClusterModel → Event → Type 0
HasRoomFor w (event.Decide node session) = HasRoomIf (is_to_decide (held_in w.state node session)) 1 w.spare
HasRoomFor w (event.Put node session) = HasRoomIf (is_to_put (held_in w.state node session)) 2 w.spare × HasPlaceFor (to_place (held_in w.state node session)) w.places
HasRoomFor w (event.Answer node session) = HasRoomIf (is_to_answer (held_in w.state node session)) 1 w.spare
HasRoomFor w _ = Unit {0}

-- ---- what an event leaves
pub record KeepsRoom (old now : ClusterModel) : Type 0 where
  pub spare : now.spare ≡ old.spare
  pub places : now.places ≡ old.places

-- what a served request appends was reserved, and a commit that was placed has used up its place
pub record Spends (served : Bool) (stamps : Option (ℕ × ℕ)) (old now : ClusterModel) : Type 0 where
  pub spare : SpendsIf served old.spare old.history now.spare now.history
  pub places : now.places ≡ places_after stamps old.places

-- a request that is accepted has room for five items more; where none is held nothing is accepted
abbrev pub ReservesFor : Option Held → Result Unit Stopped → ℕ → ℕ → Type 0
ReservesFor None result before now = (before ≤ now) × (now ≤ before + 5)
ReservesFor (Some held) result before now = ReservesFive result before now

-- and a commit that the oracle is to place has a place
pub record Reserves (direct : Bool) (held : Option Held) (old now : ClusterModel) (result : Result Unit Stopped) : Type 0 where
  pub spare : ReservesFor held result old.spare now.spare
  pub place : OnOk result (HeldHasPlace direct now.places held)
  pub places : KeepPlaces old.places now.places

abbrev pub LeavesRoom : Event → ClusterModel → ClusterModel → Result Unit Stopped → Type 0
LeavesRoom (event.Accept node session reading) old now result = Reserves (direct_in old.state node) (held_in old.state node session) old now result
LeavesRoom (event.Decide node session) old now result = Spends (is_to_decide (held_in old.state node session)) None old now
LeavesRoom (event.Put node session) old now result = Spends (is_to_put (held_in old.state node session)) (to_place (held_in old.state node session)) old now
LeavesRoom (event.Answer node session) old now result = Spends (is_to_answer (held_in old.state node session)) None old now
LeavesRoom _ old now result = KeepsRoom old now

-- the room for so many items more is all that an event can reserve
abbrev pub most_reserved : Event → ℕ
most_reserved (event.Accept node session reading) = 5
most_reserved _ = 0
