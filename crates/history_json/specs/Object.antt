-- The JSON value that an item is, and its line.
use Rattle.std.specs.Prelude.{ℕ, List}
use Rattle.serde_json.specs.Data.{Data, object}
use Rattle.serde_json.specs.Written.{compact_text}
use Rattle.history_book.specs.declared.item.Item.{Item}
use Rattle.history_json.specs.Members.{members_of}

-- the item as a JSON value
abbrev pub data_of : Item → Data
data_of item = object (members_of item)

-- the item's line, without a line feed
abbrev pub json_line : Item → List ℕ
json_line item = compact_text (data_of item)
