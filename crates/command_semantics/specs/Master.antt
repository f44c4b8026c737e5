-- Which nodes have taken the master record, as a history tells.
use Rattle.std.specs.Prelude.{◌≡◌, ℕ, ◌==◌, Bool, true, false, List, Option, None, Some, unwrap_or}
use Rattle.std.specs.List.{list_any}
use Rattle.history_book.specs.declared.item.Item.{Item}
use Rattle.history_book.specs.declared.item.Item.TheVariants as item
use Rattle.cause_rules.specs.Since.{last_told}

-- the node whose take the item tells
abbrev pub taken_by : Item → Option ℕ
taken_by (item.Take node reading term epoch until ceiling) = Some node
taken_by _ = None

-- the node that took the record last, or the first node where none did
abbrev pub last_master : List Item → ℕ
last_master before = unwrap_or (last_told taken_by before) 0

abbrev pub is_node : ℕ → Option ℕ → Bool
is_node node None = false
is_node node (Some found) = found == node

abbrev pub takes : ℕ → Item → Bool
takes node x = is_node node (taken_by x)

abbrev pub has_take : List Item → ℕ → Bool
has_take before node = list_any (takes node) before

-- the node has taken the record
abbrev pub HasTake : List Item → ℕ → Type 0
HasTake before node = has_take before node ≡ true
