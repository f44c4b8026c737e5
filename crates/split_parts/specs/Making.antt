-- What an event does to the parts besides the filled state.
use Rattle.std.specs.Prelude.{◌≡◌, ◌<◌, false, ℕ, List, Option, None, Some, Result, Ok, Err, IfSome, IsErr}
use Rattle.stamp_base.specs.declared.stores.Store.{Store}
use Rattle.machine.specs.declared.event.Event.{Event}
use Rattle.session_script.specs.PostedNames.{is_posted, names_after, Posted, with_name}
use Rattle.event_parts.specs.declared.stopped.Stopped.{Stopped}
use Rattle.event_parts.specs.declared.stopped.Stopped.TheVariants.{NoMemory}
use Rattle.split_parts.specs.Parts.{Parts, called}

-- a store call is counted, but where memory was refused none was made
abbrev pub called_after : Option Store → Result Unit Stopped → Parts → Parts
called_after asked (Err NoMemory) l = l
called_after asked _ l = called asked l

-- how a call stopped, if it did, unless memory was refused
abbrev pub Ends : {E : Type 0} → Result Unit Stopped → Result (Option Stopped) E → Type 0
Ends (Ok _) result = result ≡ Ok None
Ends (Err NoMemory) result = IsErr result
Ends (Err stopped) result = result ≡ Ok (Some stopped)

-- the name is new, and there is room for it
abbrev pub HasRoomFor : Posted → Option (List ℕ) → Type 0
HasRoomFor posted None = Unit {0}
HasRoomFor posted (Some name) = (0 < posted.room) × (is_posted posted.names name ≡ false)

-- the name, if it is one, is what the event adds to those that are posted
pub record Adds (posted : Posted) (e : Event) (name : Option (List ℕ)) : Type 0 where
  pub room : HasRoomFor posted name
  pub names : with_name posted.names name ≡ names_after posted.names e

abbrev pub AddsIf : Option Posted → Event → Option (List ℕ) → Type 0
AddsIf posted e name = IfSome posted (λ p. Adds p e name)
