-- How a call on a store stands to the machine's step.
use Rattle.std.specs.Prelude.{◌≡◌, Bool, true, false, List, [], ◌∷◌, ◌++◌, is_none, Option, None, Some, Result, Ok, Err}
use Rattle.history_book.specs.declared.cause.Cause.{Cause}
use Rattle.history_book.specs.declared.cause.Cause.TheVariants.{Undecided}
use Rattle.history_book.specs.declared.item.Actor.{Actor}
use Rattle.history_book.specs.declared.item.Item.{Item}
use Rattle.history_book.specs.declared.item.Item.TheVariants as item
use Rattle.system_parts.specs.Rows.{Row}
use Rattle.system_parts.specs.Pairs.{Pairs, mark_of}
use Rattle.system_parts.specs.declared.pairs.Put.{Put}
use Rattle.system_parts.specs.declared.pairs.Put.TheVariants.{Placed, Found}
use Rattle.system_parts.specs.declared.asks.Ask.{Ask}
use Rattle.system_parts.specs.declared.asks.Ask.TheVariants.{Mark}
use Rattle.system_parts.specs.declared.asks.Told.{Told}
use Rattle.system_parts.specs.declared.asks.Told.TheVariants as told
use Rattle.system_parts.specs.Sweep.{Sweeping}
use Rattle.machine.specs.StoreSteps.{Met, told_entry}
pub use Rattle.machine.specs.Calls.{KeepsShadow, KeepsShadowNext}

-- the answer, where the call worked
abbrev pub answer_of : {E : Type 0} → Result Told E → Option Told
answer_of (Ok answer) = Some answer
answer_of (Err why) = None

-- ---- marks
-- the step would place a mark
abbrev pub places_mark : Ask → Pairs → Bool
places_mark (Mark txn) pairs = is_none (mark_of pairs txn)
places_mark _ pairs = false

-- the mark that a step placed: none stood before, and one stands now
abbrev pub placed_items : Bool → Bool → Actor → Ask → List Item
placed_items true false actor (Mark txn) = item.Mark actor txn ∷ []
placed_items _ _ actor _ = []

-- there is room for a mark that the step may place
abbrev pub HasRoomFor : Ask → Bool → Type 0
HasRoomFor (Mark txn) has_room = has_room ≡ true
HasRoomFor _ has_room = Unit {0}

abbrev pub told_of_put : Put → Told
told_of_put Placed = told.Marked
told_of_put (Found mark) = told_entry (Some mark)

-- ---- the whole step
-- the stores are what the step leaves of them, its items were appended, and it was answered so
pub record IsMet (m : Met) (rows_now : List Row) (pairs_now : Pairs) (before after : List Item) (answer : Option Told) : Type 0 where
  pub rows : rows_now ≡ m.rows
  pub pairs : pairs_now ≡ m.pairs
  pub items : after ≡ before ++ m.items
  pub told : m.told ≡ answer

-- ---- sweeps
-- why a sweep is undecided, where it is
abbrev pub undecided_cause : Sweeping → Bool → Option Cause
undecided_cause s true = Some (Undecided s.txn s.epoch)
undecided_cause s false = None
