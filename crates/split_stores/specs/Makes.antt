-- What making an event does to its actor's log and to the parts that are lent to it.
use Rattle.std.specs.Prelude.{◌≡◌, ℕ, ◌≤◌, [], ◌∷◌, ◌++◌, length, Option, None, Some}
use Rattle.atomic_table.specs.Seated.{TableId}
use Rattle.stamp_base.specs.declared.memory.NoMemory.{NoMemory}
use Rattle.tick_word.specs.Rule.{seat_limit}
use Rattle.event_parts.specs.declared.stopped.Stopped.{Stopped}
use Rattle.script_data.specs.Data.{ScriptData}
use Rattle.split_parts.specs.declared.acting.Acted.{Acted}
use Rattle.split_parts.specs.declared.event.Event.{Event}
use Rattle.split_stores.specs.declared.made.Made.{Made}
use Rattle.split_stores.specs.declared.made.Made.TheVariants as made
use Rattle.split_stores.specs.declared.seat.Entry.{Entry}
use Rattle.split_parts.specs.Acts.{Acts, timed_by}
pub use Rattle.split_parts.specs.Plans.{planned_by}
use Rattle.split_parts.specs.Agrees.{Agrees, HasParts}
use Rattle.split_stores.specs.Locks.{IsInPlace}
use Rattle.split_stores.specs.Logs.{Logged, SameLog, Adds}
use Rattle.split_parts.specs.Parts.{Parts, LeasesBySetup}

-- one entry of the event was added
pub record AddsOne (event : Event) (old new : Logged) : Type 0 where
  pub added : Entry
  pub of : added.event ≡ event
  pub word : new.word ≡ old.word
  pub entries : new.entries ≡ old.entries ++ added ∷ []

-- the event was logged, unless the seat had drawn all its ticks, or memory was refused
abbrev pub Makes : Event → Made → Logged → Logged → Type 0
Makes event made.Did old new = AddsOne event old new
Makes event (made.Stopped stopped) old new = AddsOne event old new
Makes event (made.Spent drawn) old new = SameLog old new × (drawn ≡ length old.entries) × (seat_limit ≤ drawn)
Makes event made.NoMemory old new = SameLog old new

-- the seat was told that it has drawn all its ticks
abbrev pub IsSpent : Made → Type 0
IsSpent (made.Spent drawn) = Unit {0}
IsSpent _ = ⊥

-- ---- where the parts are lent
-- the parts are the event's, and agree
abbrev pub Fit : Parts → Event → Type 0
Fit l e = IsInPlace l e × Agrees l e

-- nothing was done
pub record LeavesAll (old new : Parts) (acted : Acted) : Type 0 where
  pub items : acted.items.items ≡ []
  pub stopped : acted.stopped ≡ None
  pub parts : new ≡ old

-- where the parts fit, the event is made of them, and else nothing is done
pub record Performs (e : Event) (old new : Parts) (acted : Acted) : Type 0 where
  pub makes : Fit old e → LeasesBySetup old → Acts old new (timed_by old e) acted
  pub leaves : (Fit old e → ⊥) → LeavesAll old new acted

-- how the event's method answers
abbrev pub made_of : Option Stopped → Made
made_of None = made.Did
made_of (Some stopped) = made.Stopped stopped

-- what was done to the parts is what was logged and answered
pub record LogsWhatIsDone (e : Event) (old new : Parts) (before after : Logged) (answer : Made) : Type 0 where
  pub acted : Acted
  pub performs : Performs e old new acted
  pub adds : Adds e acted.items.items before after
  pub answers : answer ≡ made_of acted.stopped

-- where memory was refused, all is as before
abbrev pub Inside : Event → Parts → Parts → Logged → Logged → Made → Type 0
Inside e old new before after made.Did = LogsWhatIsDone e old new before after made.Did
Inside e old new before after (made.Stopped stopped) = LogsWhatIsDone e old new before after (made.Stopped stopped)
Inside e old new before after (made.Spent drawn) = ⊥
Inside e old new before after made.NoMemory = SameLog before after × (new ≡ old)

-- there are parts that the event has to do with, lent under this plan, and what was made of them was logged and answered
pub record MadeOfParts (plan : ScriptData) (e : Event) (answer : Made) (before after : Logged) : Type 0 where
  pub old : Parts
  pub new : Parts
  pub planned : old.plan ≡ plan
  pub has : IsInPlace old e → HasParts old e
  pub inside : Inside e old new before after answer

-- so it is with an event that was logged
abbrev pub MadeOf : ScriptData → Event → Made → Logged → Logged → Type 0
MadeOf plan e made.Did old new = MadeOfParts plan e made.Did old new
MadeOf plan e (made.Stopped stopped) old new = MadeOfParts plan e (made.Stopped stopped) old new
MadeOf plan e _ old new = Unit {0}

-- ---- the parts behind their locks
-- which word gives their ticks, for how many seats, and what the script sets
pub record Shared : Type 0 where
  pub id : TableId
  pub seats : ℕ
  pub plan : ScriptData
