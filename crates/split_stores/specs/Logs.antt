-- The logs of actors.
use Rattle.std.specs.Prelude.{◌≡◌, ℕ, ◌+◌, ◌<◌, ◌≤◌, ◌^◌, nat_lt, Bool, true, ◌&&◌, List, [], ◌∷◌, ◌++◌, map, sum_by, slice_set}
use Rattle.atomic_table.specs.Seated.{TableId}
use Rattle.tick_word.specs.Seats.{Seated}
use Rattle.history_book.specs.declared.item.Item.{Item}
use Rattle.split_parts.specs.declared.event.Event.{Event}
use Rattle.split_parts.specs.declared.event.Event.TheVariants as event
use Rattle.split_stores.specs.declared.seat.Entry.{Entry}

-- of which word the seat is, what was logged, and whether there is room for one more
pub record Logged : Type 0 where
  pub word : TableId
  pub entries : List Entry
  pub ready : Bool

abbrev pub ticks_of : List Entry → List ℕ
ticks_of entries = map (λ e. e.tick) entries

-- each number is above the one before it, and the first above low
abbrev pub rises_above : ℕ → List ℕ → Bool
rises_above low [] = true
rises_above low (x ∷ xs) = nat_lt low x && rises_above x xs

-- the entries stand under the ticks that the seat has drawn, which rise
pub record IsKept (entries : List Entry) (seat : Seated) : Type 0 where
  pub part : seat.parts ≡ 1
  pub drawn : seat.drawn ≡ ticks_of entries
  pub rise : rises_above 0 (ticks_of entries) ≡ true

-- by how much an event raises the base clock, and by how much all that were logged do
abbrev pub rise_of : Event → ℕ
rise_of (event.Tick by) = by
rise_of _ = 0

abbrev pub risen_by : List Entry → ℕ
risen_by entries = sum_by (λ e. rise_of e.event) entries

-- a tick of the clock raises it by 1 to 1,000,000, and all that were logged with it by less than 2^40
abbrev pub CanRise : Event → List Entry → Type 0
CanRise (event.Tick by) entries = (1 ≤ by) × (by ≤ 1000000) × (risen_by entries + by < 2 ^ 40)
CanRise _ entries = Unit {0}

abbrev pub IsNew : TableId → Logged → Type 0
IsNew word log = (log.word ≡ word) × (log.entries ≡ [])

pub record SameLog (old new : Logged) : Type 0 where
  pub word : new.word ≡ old.word
  pub entries : new.entries ≡ old.entries

-- one entry of the event was added, which kept these items
pub record Adds (event : Event) (items : List Item) (old new : Logged) : Type 0 where
  pub added : Entry
  pub of : added.event ≡ event
  pub kept : added.kept.items ≡ items
  pub word : new.word ≡ old.word
  pub entries : new.entries ≡ old.entries ++ added ∷ []

-- the entry at the place, which was this one, has kept nothing now
pub record Strikes (place : ℕ) (was : Entry) (old new : Logged) : Type 0 where
  pub struck : Entry
  pub tick : struck.tick ≡ was.tick
  pub of : struck.event ≡ was.event
  pub kept : struck.kept.items ≡ []
  pub word : new.word ≡ old.word
  pub entries : new.entries ≡ slice_set old.entries place struck
