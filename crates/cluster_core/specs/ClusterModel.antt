-- A cluster as its contracts see it, and what a call makes of it.
use Rattle.std.specs.Prelude.{ℕ, List, Result}
use Rattle.stamp_base.specs.declared.stores.Store.{Store}
use Rattle.port_io.specs.declared.weather.Fate.{Fate}
use Rattle.history_book.specs.declared.item.Item.{Item}
use Rattle.system_parts.specs.Pairs.{Places}
use Rattle.machine.specs.declared.event.Event.{Event}
use Rattle.machine.specs.State.{State}
use Rattle.machine.specs.Effect.{Effect}
use Rattle.machine.specs.Machine.{Step, stepped, asks}
use Rattle.event_parts.specs.Made.{Makes, fate_ahead}
use Rattle.event_parts.specs.declared.stopped.Stopped.{Stopped}

-- the state of the machine, the history that led to it, for how many items it has room that was reserved for requests, and the
-- transactions for which the commit table has a place
pub record ClusterModel : Type 0 where
  pub state : State
  pub history : List Item
  pub spare : ℕ
  pub places : Places

-- a step of the machine, as the effect of an event on all parts
abbrev pub effect_of : Step → Effect State
effect_of step = record { parts = step.state; items = step.items; stop = step.stop }

-- the call made the step, as far as it came: it left its state, appended its items, and answered how it stopped; where memory
-- was refused, all is as before
abbrev pub MakesStep : Step → ClusterModel → ClusterModel → Result Unit Stopped → Type 0
MakesStep step old now result = Makes (effect_of step) old.state now.state old.history now.history result

-- the step that an event makes under the weather ahead: a store that it asks gives the call the first fate that it has ahead
abbrev pub step_under : (Store → ℕ → Fate) → State → Event → Step
step_under ahead w event = stepped w event (fate_ahead (asks w event) ahead)
