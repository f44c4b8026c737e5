-- All that users rely on, after every event.
use Rattle.std.specs.Prelude.{List, [], ◌++◌}
use Rattle.stamp_base.specs.SetupNumbers.{SetupNumbers, AreInRange}
use Rattle.port_io.specs.declared.weather.Fate.{Fate}
use Rattle.history_book.specs.declared.item.Item.{Item}
use Rattle.machine.specs.declared.event.Event.{Event}
use Rattle.machine.specs.State.{State, opening}
use Rattle.machine.specs.Machine.{Move, Steady, stepped, history_after, reading_of, IsSteadyAt}
use Rattle.cause_laws.specs.ShownInvariant.{ExplainedInvariant}
use Rattle.service_rules.specs.Service.{KeepsService}
use Rattle.service_laws.specs.Told.{ToldInvariant}
use Rattle.service_laws.specs.Stamps.{StampInvariant}
use Rattle.service_laws.specs.OwnWrites.{OwnInvariant}

pub record ServiceInvariant (w : State) (h : List Item) : Type 0 where
  pub told : ToldInvariant w h
  pub stamps : StampInvariant w h
  pub own : OwnInvariant w h

-- before the first event
abbrev pub ServiceAtFirst : Type 0
ServiceAtFirst = (setup : SetupNumbers) → ServiceInvariant (opening setup) []

-- an event whose reading is steady keeps it so in every state that is reached
abbrev pub EventsKeepService : Type 0
EventsKeepService =
    (w : State) (h : List Item) (e : Event) (fate : Fate) → ExplainedInvariant w h → IsSteadyAt w.setup.skew w.seen (reading_of e) → ServiceInvariant w h → ServiceInvariant (stepped w e fate).state (h ++ (stepped w e fate).items)

-- so users may rely on the history
abbrev pub ServiceNow : Type 0
ServiceNow = (w : State) (h : List Item) → ExplainedInvariant w h → ServiceInvariant w h → KeepsService w.setup h

-- and on every history of the machine
abbrev pub ServiceAlways : Type 0
ServiceAlways = (setup : SetupNumbers) (moves : List Move) → AreInRange setup → Steady setup moves → KeepsService setup (history_after setup moves)
