-- That stamps keep to real time, after every event: what was told before a request was asked for is below the stamp that it gets.
use Rattle.std.specs.Prelude.{ℕ, ◌<◌, ◌≤◌, List, [], ◌++◌}
use Rattle.stamp_base.specs.SetupNumbers.{SetupNumbers, AreInRange}
use Rattle.port_io.specs.declared.weather.Fate.{Fate}
use Rattle.history_book.specs.Members.{◌∈◌}
use Rattle.history_book.specs.declared.item.Actor.{Actor}
use Rattle.history_book.specs.declared.item.Item.{Item}
use Rattle.history_book.specs.declared.item.Item.TheVariants.{Step}
use Rattle.history_book.specs.declared.item.StoreStep.TheVariants.{Handed}
use Rattle.system_parts.specs.declared.instance.Progress.TheVariants.{Accepted, Drawn}
use Rattle.system_parts.specs.declared.instance.Request.{Request}
use Rattle.system_parts.specs.declared.instance.Request.TheVariants.{Begin}
use Rattle.system_parts.specs.Instance.{InstanceEntry}
use Rattle.machine.specs.declared.event.Event.{Event}
use Rattle.machine.specs.State.{State, opening}
use Rattle.machine.specs.Machine.{Move, Steady, stepped, history_after, reading_of, IsSteadyAt}
use Rattle.isolation_laws.specs.Words.{InstanceAt, HeldBy, DrewCommit}
use Rattle.cause_laws.specs.ShownInvariant.{ExplainedInvariant}
use Rattle.service_rules.specs.Stamps.{ToldBeforeAsk, FreshStamps, SnapshotsRise, OwnCommitsAreRead}
use Rattle.service_laws.specs.Told.{ToldInvariant}

pub record StampInvariant (w : State) (h : List Item) : Type 0 where
  -- a commit that was handed over was drawn
  pub handed : (actor : Actor) (t c : ℕ) → Step actor (Handed t c) ∈ h → (s : ℕ) × (n : ℕ) × (term : ℕ) × DrewCommit h s n term t c
  -- what was told before a request was asked for is at most its instance's last stamp, once that has accepted it
  pub accepted : (n s stamp : ℕ) (i : InstanceEntry) (request : Request) → InstanceAt w.nodes n i → HeldBy i s request Accepted → ToldBeforeAsk h s stamp → stamp ≤ i.last
  -- and below the start that was drawn for it
  pub drawn : (n s start stamp : ℕ) (i : InstanceEntry) → InstanceAt w.nodes n i → HeldBy i s (Begin s) (Drawn start) → ToldBeforeAsk h s stamp → stamp < start
  pub fresh : FreshStamps h
  pub rise : SnapshotsRise h
  pub own : OwnCommitsAreRead h

-- before the first event
abbrev pub StampsAtFirst : Type 0
StampsAtFirst = (setup : SetupNumbers) → StampInvariant (opening setup) []

-- an event whose reading is steady keeps it so in every state that is reached
abbrev pub EventsKeepStamps : Type 0
EventsKeepStamps =
    (w : State) (h : List Item) (e : Event) (fate : Fate) → ExplainedInvariant w h → IsSteadyAt w.setup.skew w.seen (reading_of e) → ToldInvariant w h → StampInvariant w h →
    StampInvariant (stepped w e fate).state (h ++ (stepped w e fate).items)

-- in every history of the machine
abbrev pub StampsAlways : Type 0
StampsAlways = (setup : SetupNumbers) (moves : List Move) → AreInRange setup → Steady setup moves → FreshStamps (history_after setup moves)

abbrev pub SnapshotsAlways : Type 0
SnapshotsAlways = (setup : SetupNumbers) (moves : List Move) → AreInRange setup → Steady setup moves → SnapshotsRise (history_after setup moves) × OwnCommitsAreRead (history_after setup moves)
