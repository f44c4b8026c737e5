-- Which calls serve a request that was accepted. Such a call appends in room that was reserved for the request, and takes no memory.
use Rattle.std.specs.Prelude.{◌≡◌, ℕ, ◌+◌, ◌≤◌, Bool, true, false, List, length, Option, None, Some, is_some, Result, Err, IsTrue}
use Rattle.std.specs.FinSet as set
use Rattle.history_book.specs.declared.item.Item.{Item}
use Rattle.system_parts.specs.Pairs.{Places}
use Rattle.system_parts.specs.declared.instance.Held.{Held}
use Rattle.system_parts.specs.declared.instance.Progress.{Progress}
use Rattle.system_parts.specs.declared.instance.Progress.TheVariants.{Accepted, Drawn, Settled, Handed}
use Rattle.system_parts.specs.declared.instance.Request.{Request}
use Rattle.system_parts.specs.declared.instance.Request.TheVariants.{Begin, Commit}
use Rattle.machine.specs.Events.Put.{to_place}
use Rattle.event_parts.specs.declared.stopped.Stopped.{Stopped}
use Rattle.event_parts.specs.declared.stopped.Stopped.TheVariants.{NoMemory}
pub use Rattle.machine.specs.Readers.{held_at}

-- ---- how far a request must have come
-- it was accepted, and waits for its stamp
abbrev pub decides_at : Progress → Bool
decides_at Accepted = true
decides_at _ = false

abbrev pub is_to_decide : Option Held → Bool
is_to_decide None = false
is_to_decide (Some held) = decides_at held.progress

-- it is a commit that was drawn, and waits for its record, which the oracle places
abbrev pub is_to_put : Option Held → Bool
is_to_put held = is_some (to_place held)

-- it is a begin that was drawn, or a commit that was settled or is to be handed over, and waits for its answer
abbrev pub answers_at : Request → Progress → Bool
answers_at (Begin session) (Drawn start) = true
answers_at (Commit session start keys) (Settled commit how) = true
answers_at (Commit session start keys) (Handed commit) = true
answers_at _ _ = false

abbrev pub is_to_answer : Option Held → Bool
is_to_answer None = false
is_to_answer (Some held) = answers_at held.request held.progress

-- ---- what such a call needs, and what it uses
-- there is room for so many items
abbrev pub HasRoomIf : Bool → ℕ → ℕ → Type 0
HasRoomIf true n spare = n ≤ spare
HasRoomIf false n spare = Unit {0}

-- each item was appended in room that was reserved; a call that serves nothing leaves that room
abbrev pub SpendsIf : Bool → ℕ → List Item → ℕ → List Item → Type 0
SpendsIf true spare items spare_now items_now = spare_now + length items_now ≡ spare + length items
SpendsIf false spare items spare_now items_now = spare_now ≡ spare

abbrev pub NeverLacks : Result Unit Stopped → Type 0
NeverLacks (Err NoMemory) = ⊥
NeverLacks _ = Unit {0}

-- a call that serves a request wants no memory
abbrev pub NeverLacksIf : Bool → Result Unit Stopped → Type 0
NeverLacksIf true result = NeverLacks result
NeverLacksIf false result = Unit {0}

-- the commit that is to be placed has a place
abbrev pub HasPlaceFor : Option (ℕ × ℕ) → Places → Type 0
HasPlaceFor None places = Unit {0}
HasPlaceFor (Some stamps) places = IsTrue (set.contains places stamps.0)

-- its place is used up
abbrev pub places_after : Option (ℕ × ℕ) → Places → Places
places_after None places = places
places_after (Some stamps) places = set.remove places stamps.0
