-- What holds of every state that is reached, with its history.
use Rattle.std.specs.Prelude.{List, [], ◌++◌}
use Rattle.stamp_base.specs.SetupNumbers.{SetupNumbers, AreInRange}
use Rattle.port_io.specs.declared.weather.Fate.{Fate}
use Rattle.history_book.specs.declared.item.Item.{Item}
use Rattle.machine.specs.declared.event.Event.{Event}
use Rattle.machine.specs.State.{State, opening}
use Rattle.machine.specs.Machine.{Move, Steady, stepped, state_after, history_after}
use Rattle.cause_laws.specs.ShownInvariant.{ExplainedInvariant}
use Rattle.request_completion.specs.Ends.{AreToldWaits, AreToldOpen, AreRemoved, AreErased, Ends}

-- before the first event
abbrev pub EndsAtFirst : Type 0
EndsAtFirst = (setup : SetupNumbers) → Ends (opening setup) []

-- an event keeps it so in every state that is reached
abbrev pub EventsKeepEnds : Type 0
EventsKeepEnds = (w : State) (h : List Item) (e : Event) (fate : Fate) → ExplainedInvariant w h → Ends w h → Ends (stepped w e fate).state (h ++ (stepped w e fate).items)

-- where an instance says of a session that it was told to wait, this stands in the history, behind the session's last ask
abbrev pub ToldWaitsStand : Type 0
ToldWaitsStand = (setup : SetupNumbers) (moves : List Move) → AreInRange setup → Steady setup moves → AreToldWaits (state_after (opening setup) moves).nodes (history_after setup moves)

-- a session whose outcome is open was told so, behind its last ask, which was for its commit
abbrev pub OpenOutcomesWereTold : Type 0
OpenOutcomesWereTold = (setup : SetupNumbers) (moves : List Move) → AreInRange setup → Steady setup moves → AreToldOpen (state_after (opening setup) moves).clients (history_after setup moves)

-- behind each commit that a session is told its record is removed, unless a call of the session failed, it has vanished, or its
-- completion is still under way
abbrev pub CommitsAreRemoved : Type 0
CommitsAreRemoved = (setup : SetupNumbers) (moves : List Move) → AreInRange setup → Steady setup moves → AreRemoved (state_after (opening setup) moves).clients (history_after setup moves)

-- behind each refusal that ends a commit and leaves cells these are erased, with the same exceptions
abbrev pub RefusalsAreErased : Type 0
RefusalsAreErased = (setup : SetupNumbers) (moves : List Move) → AreInRange setup → Steady setup moves → AreErased (state_after (opening setup) moves).clients (history_after setup moves)
