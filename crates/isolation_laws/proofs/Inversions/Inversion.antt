-- Where the facts hold the parts of a state fit together, and each event comes to one outcome.
use Rattle.std.specs.Prelude.{List}
use Rattle.isolation_laws.proofs.Names.{Fate, Item, Event, State, stepped, reading_of, Fits, ComesAt}
use Rattle.isolation_laws.proofs.Names.{IsolationInvariant, Sound}
use Rattle.machine.proofs.Inversions.Inversion.{comes_to as machine_comes_to}
use Rattle.isolation_laws.proofs.Inversions.StepsFitting.{steps_fit}

pub parts_fit : (w : State) (h : List Item) → IsolationInvariant w h → Sound w → Fits w
parts_fit w h holds sound = record {
  stops = sound.stops;
  own = record { own = holds.requests.requests.own };
  sweeps = sound.sweeps;
  steps = steps_fit w h holds;
}

pub comes_to : (w : State) (h : List Item) (e : Event) (fate : Fate) → IsolationInvariant w h → Sound w → ComesAt w (reading_of e) (stepped w e fate).state (stepped w e fate).items
comes_to w h e fate holds sound = machine_comes_to w e fate (parts_fit w h holds sound)
