-- Which lines are the JSON of an item, and what is printed of a history.
use Rattle.std.specs.Prelude.{◌≡◌, ℕ, List, [], ◌∷◌, ◌++◌, Some, IsUtf8}
use Rattle.std.specs.List.{flat_map}
use Rattle.serde_json.specs.Read.{read}
use Rattle.history_book.specs.declared.item.Item.{Item}
pub use Rattle.history_json.specs.Object.{data_of, json_line}

-- The line is read as the item's object: its members are those of the item, each with its value.
-- Blanks, escapes and the order of the members are free, and of a repeated member the last counts.
pub record IsJsonLineOf (line : List ℕ) (item : Item) : Type 0 where
  pub utf8 : IsUtf8 line
  pub value : read line ≡ Some (data_of item)

-- the item's line as it is printed, with its line feed
abbrev pub json_text : Item → List ℕ
json_text item = json_line item ++ 10 ∷ []

-- what is printed of a history: its lines, in order
abbrev pub json_printed : List Item → List ℕ
json_printed history = flat_map json_text history
