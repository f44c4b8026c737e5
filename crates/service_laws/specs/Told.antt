-- That what sessions are told is true, after every event: what was told as committed is placed, and what was told to be over is
-- neither open nor in flight, nor was it placed.
use Rattle.std.specs.Prelude.{◌≡◌, ℕ, List, [], ◌++◌, Some}
use Rattle.stamp_base.specs.SetupNumbers.{SetupNumbers, AreInRange}
use Rattle.port_io.specs.declared.weather.Fate.{Fate}
use Rattle.history_book.specs.Members.{AtEach}
use Rattle.history_book.specs.declared.item.Item.{Item}
use Rattle.machine.specs.declared.event.Event.{Event}
use Rattle.machine.specs.State.{State, opening}
use Rattle.machine.specs.Machine.{Move, Steady, stepped, history_after}
use Rattle.isolation_laws.specs.Laws.{IsLost}
use Rattle.cause_laws.specs.ShownInvariant.{ExplainedInvariant}
use Rattle.service_rules.specs.Told.{WasPlaced, over_by, ToldIsTrue, OneOutcome}

-- what an item tells to be over can't be placed any more
abbrev pub IsToldLost : State → List Item → List Item → Item → Type 0
IsToldLost w h before x = (start : ℕ) → over_by before x ≡ Some start → IsLost w h start

-- the state w is reached with the history h
pub record ToldInvariant (w : State) (h : List Item) : Type 0 where
  pub committed : AtEach WasPlaced h
  pub over : AtEach (IsToldLost w h) h

-- before the first event
abbrev pub ToldAtFirst : Type 0
ToldAtFirst = (setup : SetupNumbers) → ToldInvariant (opening setup) []

-- an event keeps it so in every state that is reached
abbrev pub EventsKeepTold : Type 0
EventsKeepTold = (w : State) (h : List Item) (e : Event) (fate : Fate) → ExplainedInvariant w h → ToldInvariant w h → ToldInvariant (stepped w e fate).state (h ++ (stepped w e fate).items)

-- so what is told is true
abbrev pub ToldTrueNow : Type 0
ToldTrueNow = (w : State) (h : List Item) → ToldInvariant w h → ToldIsTrue h

-- in every history of the machine, and no transaction is told two outcomes
abbrev pub ToldTrueAlways : Type 0
ToldTrueAlways = (setup : SetupNumbers) (moves : List Move) → AreInRange setup → Steady setup moves → ToldIsTrue (history_after setup moves)

abbrev pub OneOutcomeAlways : Type 0
OneOutcomeAlways = (setup : SetupNumbers) (moves : List Move) → AreInRange setup → Steady setup moves → OneOutcome (history_after setup moves)
