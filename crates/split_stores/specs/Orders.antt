-- Merged logs as events in the order in which they were made, each at the reading of its clock.
use Rattle.std.specs.Prelude.{◌≡◌, ℕ, List, [], ◌∷◌, Option, None, Some}
use Rattle.stamp_base.specs.SetupNumbers.{AreInRange}
use Rattle.script_data.specs.Data.{ScriptData}
use Rattle.command_semantics.specs.Runs.{Played, opening_played}
use Rattle.command_semantics.specs.Laws.{IsPlayable}
use Rattle.command_semantics.specs.Planned.{with_tick, ticks_in, Planned}
use Rattle.command_semantics.specs.Orders.{TimedEvent, AllRead, all_played, ticks_made}
use Rattle.cluster_core.specs.ClusterModel.{ClusterModel}
use Rattle.split_parts.specs.declared.event.Event.{Event}
use Rattle.split_parts.specs.declared.event.Event.TheVariants as event
use Rattle.split_stores.specs.declared.seat.Entry.{Entry}
use Rattle.split_stores.specs.Merged.{timed_in, played_with, IsSettledAt, Settled}

-- by how much the event raises the base clock, if it does
abbrev pub rise_by : Event → Option ℕ
rise_by (event.Tick by) = Some by
rise_by _ = None

unfoldable pub timed_entries : ScriptData → List Entry → Played → List TimedEvent
timed_entries script [] p = []
timed_entries script (e ∷ es) p = record { event = timed_in script p e.event; tick = rise_by e.event } ∷ timed_entries script es (played_with script p e.event)

-- by how much they raise the base clock, in order
unfoldable pub rises_in : List Entry → List ℕ
rises_in [] = []
rises_in (e ∷ es) = with_tick (rise_by e.event) (rises_in es)

abbrev pub without_lines : ScriptData → ScriptData
without_lines script = record script { lines = [] }

-- what is settled by a script's plan is settled by the script
abbrev pub SettledByPlans : Type 0
SettledByPlans = (script : ScriptData) (logs : List Entry) (whole : ClusterModel) (settled : Settled (without_lines script) logs whole) → IsSettledAt script settled.merged whole

-- its history is what events come to that read the clocks, in an order in which these tick as the entries rise
pub record IsOrdered (script : ScriptData) (merged : List Entry) (whole : ClusterModel) : Type 0 where
  pub events : List TimedEvent
  pub read : AllRead script events (opening_played script)
  pub ticks : ticks_made events ≡ rises_in merged
  pub items : whole.history ≡ (all_played script events (opening_played script)).items

abbrev pub SettledIsOrdered : Type 0
SettledIsOrdered = (script : ScriptData) (logs : List Entry) (whole : ClusterModel) (settled : Settled (without_lines script) logs whole) → IsOrdered script settled.merged whole

-- and its history is as planned, where the clock ticks as the script's lines say
abbrev pub SettledIsPlanned : Type 0
SettledIsPlanned =
    (script : ScriptData) (logs : List Entry) (whole : ClusterModel) (settled : Settled (without_lines script) logs whole) → AreInRange script.setup → IsPlayable script 0 script.lines → rises_in settled.merged ≡ ticks_in script.lines →
    Planned script whole.history
