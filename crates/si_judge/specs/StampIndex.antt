-- What the sets of an index of stamps hold.
use Rattle.std.specs.Prelude.{◌≡◌, false}
use Rattle.history_book.specs.declared.item.Item.{Item}
use Rattle.history_book.specs.declared.item.Item.TheVariants.{Begin, Placed}
use Rattle.isolation_rules.specs.StampedPairs.{commits_too_low, stamps_meet}
use Rattle.si_judge.specs.declared.stamp_index.Stamps.{Stamps}
use Rattle.si_judge.specs.StampSets.{Has, HasAll}

-- the index has the item's stamps
abbrev pub HasStamps : Stamps → Item → Type 0
HasStamps index (Begin session start) = Has index.drawn start
HasStamps index (Placed start commit) = Has index.placed start × Has index.drawn commit
HasStamps index _ = Unit {0}

-- what the old index has the new one has
pub record KeepsStamps (old new : Stamps) : Type 0 where
  pub placed : HasAll old.placed new.placed
  pub drawn : HasAll old.drawn new.drawn

-- the item commits above its start, and does not meet an item whose stamps the index has
pub record IsClear (index : Stamps) (x : Item) : Type 0 where
  pub above : commits_too_low x ≡ false
  pub apart : (y : Item) → HasStamps index y → stamps_meet x y ≡ false
