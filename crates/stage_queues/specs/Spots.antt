-- Which bell is which.
use Rattle.std.specs.Prelude.{◌≡◌, ℕ, ◌+◌, List, Some, slice_get}
use Rattle.stamp_base.specs.declared.numbers.TheConstants.NodeNo as nodes
use Rattle.stamp_base.specs.declared.numbers.TheConstants.SessionNo as sessions
use Rattle.stamp_base.specs.declared.stage.Stage.{Stage}
use Rattle.stamp_base.specs.declared.stage.Stage.TheVariants.{Request, Persist, Reply}
use Rattle.stage_queues.specs.declared.spot.Row.{Row}
use Rattle.stage_queues.specs.declared.spot.Row.TheVariants.{Actors, Requests, Workers}
use Rattle.stage_queues.specs.declared.spot.Spot.{Spot}
use Rattle.stage_queues.specs.declared.spot.Whom.{Whom}
use Rattle.stage_queues.specs.declared.waiting.Place.{Place}

abbrev pub spot : Row → ℕ → Spot
spot row number = record { row = row; number = number }

abbrev pub whom : Row → ℕ → ℕ → Whom
whom row from count = record { row = row; from = from; count = count }

abbrev pub alone : Spot → Whom
alone bell = whom bell.row bell.number 1

-- the place of the first session among the actors
abbrev pub first_session : ℕ
first_session = 2 + nodes.COUNT

abbrev pub all_sessions : Whom
all_sessions = whom Actors first_session sessions.COUNT

-- who sends to the queue from which a node's stage receives
abbrev pub senders_to : ℕ → Stage → Row
senders_to node Request = Actors
senders_to node Persist = Requests node
senders_to node Reply = Workers node

-- each place has the bell of its number in the row
abbrev pub StandIn : Row → List Place → Type 0
StandIn row places = (n : ℕ) (place : Place) → slice_get places n ≡ Some place → place.bell.spot ≡ spot row n
