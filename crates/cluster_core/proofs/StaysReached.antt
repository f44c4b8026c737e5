-- For this crate's own proofs.
-- A cluster's state is reached with its history: at the opening, and after each call. So the calls on its parts may be made.
use Rattle.cluster_core.proofs.Names.{◌≡◌, ℕ, List, [], ◌++◌, Option, Some, None, Result, Ok, Err, refl, sym, ap, subst}
use Rattle.cluster_core.proofs.Names.{IfSome, SetupNumbers, AreInRange, Store, Fate, Item, Event, State, opening, asks}
use Rattle.cluster_core.proofs.Names.{IsSteadyAt, reading_of, stepped, fate_ahead, ended, Stopped, Refused, StoreFault}
use Rattle.cluster_core.proofs.Names.{NoMemory, Sweeping, sweep_ask, ClusterModel, MakesStep, step_under, LeavesRoom}
use Rattle.cluster_core.proofs.Names.{is_served}
use Rattle.machine.specs.declared.event.Event.TheVariants as event
use Rattle.cause_laws.proofs.AlwaysExplained.{tells_stay, tells_at_first}
use Rattle.machine.specs.Calls.{KeepsShadowNext}
use Rattle.cause_laws.specs.Bounds.{ExtensionMayBeMade}
use Rattle.cause_laws.specs.StoreCalls.{SweepMayStep}
use Rattle.cause_laws.proofs.BoundsKept.{bounded_first, bounds_stay}
use Rattle.cause_laws.proofs.RecordCalls.{extensions_fit}
use Rattle.cause_laws.proofs.RequestCalls.{begins_ask, commits_ask, requests_wait}
use Rattle.cause_laws.proofs.StoreCalls.{heals_only, writes_bare, sweeps_ask}
use Rattle.cause_laws.proofs.StepCalls.{steps_ask}
use Rattle.cluster_core.specs.Required.{CanMake, MayExtend}
use Rattle.cluster_core.specs.Served.{NeverLacksIf}
use Rattle.cluster_core.proofs.RoomKept.{IsKept, made_kept, lacked_kept}
use Rattle.cluster_core.proofs.RoomThere.{kept_first}
use Rattle.cluster_core.specs.Reached.{IsReached}

same_whole : (w : ClusterModel) (state : State) (history : List Item) → w.state ≡ state → w.history ≡ history → IsReached (record { state = state; history = history; spare = w.spare; places = w.places }) → IsReached w
same_whole w state history at told reached =
    subst (λ (s : State). IsReached (record { state = s; history = w.history; spare = w.spare; places = w.places })) (sym at) (subst (λ (h : List Item). IsReached (record { state = state; history = h; spare = w.spare; places = w.places })) (sym told) reached)

-- a state that is reached keeps what its requests need
pub kept_in : (w : ClusterModel) → IsReached w → IsKept w.state.nodes w.history w.spare w.places
kept_in w reached = record { roomy = reached.roomy; kept = reached.places_kept }

pub reached_first : (setup : SetupNumbers) (w : ClusterModel) → AreInRange setup → w.state ≡ opening setup → w.history ≡ [] → IsReached w
reached_first setup w fit at none =
    let kept = kept_first setup [] w.spare w.places in
    same_whole w (opening setup) [] at none (record { told = tells_at_first setup fit; bounded = bounded_first setup; roomy = kept.roomy; places_kept = kept.kept })

-- the event as the call made it
after_event : (old now : ClusterModel) (e : Event) (fate : Fate) (result : Result Unit Stopped) → IsReached old → IsSteadyAt old.state.setup.skew old.state.seen (reading_of e) → now.state ≡ (stepped old.state e fate).state → now.history ≡ old.history ++ (stepped old.state e fate).items → result ≡ ended (stepped old.state e fate).stop → LeavesRoom e old now result → IsReached now
after_event old now e fate result reached steady at told is room =
    let kept = made_kept old now e fate result reached.told.stands.holds (kept_in old reached) told is room in
    same_whole now (stepped old.state e fate).state (old.history ++ (stepped old.state e fate).items) at told (record {
      told = tells_stay old.state old.history e fate reached.told steady;
      bounded = bounds_stay old.state old.history e fate reached.told reached.bounded steady;
      roomy = kept.roomy;
      places_kept = kept.kept;
    })

pub reached_after : (ahead : Store → ℕ → Fate) (old now : ClusterModel) (e : Event) (result : Result Unit Stopped) → IsReached old → IsSteadyAt old.state.setup.skew old.state.seen (reading_of e) → MakesStep (step_under ahead old.state e) old now result → LeavesRoom e old now result → NeverLacksIf (is_served old.state e) result → IsReached now
reached_after ahead old now e (Ok _) reached steady made room served = after_event old now e (fate_ahead (asks old.state e) ahead) (Ok tt) reached steady made.parts made.items (sym (ap ended made.stop)) room
reached_after ahead old now e (Err (Refused why)) reached steady made room served = after_event old now e (fate_ahead (asks old.state e) ahead) (Err (Refused why)) reached steady made.parts made.items (sym (ap ended made.stop)) room
reached_after ahead old now e (Err (StoreFault store)) reached steady made room served = after_event old now e (fate_ahead (asks old.state e) ahead) (Err (StoreFault store)) reached steady made.parts made.items (sym (ap ended made.stop)) room
reached_after ahead old now e (Err NoMemory) reached steady made room served =
    let kept = lacked_kept old now e (kept_in old reached) made.1 served room in
    same_whole now old.state old.history made.0 made.1 (record { told = reached.told; bounded = reached.bounded; roomy = kept.roomy; places_kept = kept.kept })

-- an extension goes up from where the instance may draw
covers : (w : State) (node : ℕ) → ExtensionMayBeMade w → MayExtend w node
covers w node may None at = tt
covers w node may (Some i) at = λ own. (may node (Some i) at).covered

sweeps : (w : State) (s : Option Sweeping) → w.sweep ≡ s → SweepMayStep w → IfSome s (λ x. KeepsShadowNext (sweep_ask x) w.rows)
sweeps w s is may = rw (sym is) may.shadow

pub calls_may_be_made : (w : ClusterModel) (e : Event) → IsReached w → IsSteadyAt w.state.setup.skew w.state.seen (reading_of e) → CanMake w.state e
calls_may_be_made w (event.Take node reading) reached steady = steady.0
calls_may_be_made w (event.Renew node reading) reached steady = steady.0
calls_may_be_made w (event.Extend node) reached steady = covers w.state node (extensions_fit w.state w.history reached.told)
calls_may_be_made w (event.Crash node) reached steady = λ session post c at there. requests_wait w.state w.history reached.told node post at session c there
calls_may_be_made w (event.AskBegin session node) reached steady = begins_ask w.state w.history reached.told session node
calls_may_be_made w (event.AskCommit session node) reached steady = commits_ask w.state w.history reached.told session node
calls_may_be_made w (event.Accept node session reading) reached steady = λ post c at there. requests_wait w.state w.history reached.told node post at session c there
calls_may_be_made w (event.Decide node session) reached steady = λ post c at there. requests_wait w.state w.history reached.told node post at session c there
calls_may_be_made w (event.Answer node session) reached steady = λ post c at there. requests_wait w.state w.history reached.told node post at session c there
calls_may_be_made w (event.Write session key value) reached steady = writes_bare w.state w.history reached.told session key
calls_may_be_made w (event.Step session) reached steady = λ c there. (steps_ask w.state w.history reached.told session c there).shadow
calls_may_be_made w (event.Heal session) reached steady = heals_only w.state w.history reached.told session
calls_may_be_made w event.SweepStep reached steady = sweeps w.state w.state.sweep refl (sweeps_ask w.state w.history reached.told)
calls_may_be_made w e reached steady = tt
