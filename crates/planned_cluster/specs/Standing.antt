-- Where a cluster stands while a script is carried out.
use Rattle.std.specs.Prelude.{◌≡◌, ℕ, ◌+◌, List, Option, None, Some, Result, Ok, Err}
use Rattle.stamp_base.specs.SetupNumbers.{SetupNumbers}
use Rattle.stamp_base.specs.declared.stores.Store.{Store}
use Rattle.port_io.specs.declared.weather.Fate.{Fate}
use Rattle.port_io.specs.Planned.{PlannedFault, planned_fate}
use Rattle.machine.specs.declared.event.Event.{Event}
use Rattle.machine.specs.Effect.{Stop, Refuses, Faults}
use Rattle.event_parts.specs.declared.stopped.Stopped.{Stopped}
use Rattle.event_parts.specs.declared.stopped.Stopped.TheVariants.{Refused, StoreFault, NoMemory}
use Rattle.script_data.specs.Data.{ScriptData}
use Rattle.command_semantics.specs.Clocks.{clocks}
use Rattle.command_semantics.specs.Master.{last_master}
use Rattle.command_semantics.specs.Next.{Clocks}
use Rattle.command_semantics.specs.Runs.{Played, calls_on, clock_after, step_of, played, opening_played}
use Rattle.cluster_core.specs.ClusterModel.{ClusterModel}

-- cluster, clock and weather stand where the script was played so far: the fates ahead are the planned ones of the calls that
-- were not made yet
pub record StandsAt (script : ScriptData) (p : Played) (whole : ClusterModel) (clock : ℕ) (ahead : Store → ℕ → Fate) : Type 0 where
  pub state : whole.state ≡ p.state
  pub history : whole.history ≡ p.items
  pub time : clock ≡ p.clock
  pub weather : (store : Store) (n : ℕ) → ahead store n ≡ planned_fate script.faults store (calls_on p.calls store + 1 + n)

-- so they do before the first event of every script with this setup and these faults
abbrev pub OpensFor : SetupNumbers → List PlannedFault → ClusterModel → ℕ → (Store → ℕ → Fate) → Type 0
OpensFor setup faults whole clock ahead = (script : ScriptData) → script.setup ≡ setup → script.faults ≡ faults → StandsAt script (opening_played script) whole clock ahead

-- this is what stands once a call has answered so: where memory was refused what stood before, and else what the event leads to,
-- which stopped as the call says
abbrev pub Reaches : Option Stop → Result Unit Stopped → Type 0 → Type 0 → Type 0
Reaches stop (Ok _) before after = (stop ≡ None) × after
Reaches stop (Err (Refused why)) before after = (stop ≡ Some (Refuses why)) × after
Reaches stop (Err (StoreFault store)) before after = (stop ≡ Some (Faults store)) × after
Reaches stop (Err NoMemory) before after = before

-- wherever the script was played, the event was played too
abbrev pub PlaysOn : Event → Result Unit Stopped → ClusterModel → ℕ → (Store → ℕ → Fate) → ClusterModel → ℕ → (Store → ℕ → Fate) → Type 0
PlaysOn event result old clock before new later now =
    (script : ScriptData) (p : Played) → StandsAt script p old clock before →
    Reaches (step_of script p event).stop result (StandsAt script p new later now) (StandsAt script (played script p event) new later now)

-- the clocks of such a script there
abbrev pub clocks_at : ClusterModel → ℕ → List ℕ → Clocks
clocks_at whole clock leads = clocks clock leads (last_master whole.history)

-- a tick that was made sets the base clock
abbrev pub clock_made : ℕ → Event → Result Unit Stopped → ℕ
clock_made clock event (Err NoMemory) = clock
clock_made clock event _ = clock_after clock event
