-- What holds of the histories that bytes are.
use Rattle.std.specs.Prelude.{◌≡◌, ℕ, List}
use Rattle.history_book.specs.declared.item.Item.{Item}
use Rattle.history_json.specs.History.{AreItems, IsFirstBad}

-- bytes are the lines of one list of items at most
abbrev pub IsOneHistory : Type 0
IsOneHistory = (bytes : List ℕ) (one other : List Item) → AreItems bytes one → AreItems bytes other → one ≡ other

-- where bytes are the lines of items, none of them is a first bad line
abbrev pub HasNoBadLine : Type 0
HasNoBadLine = (bytes : List ℕ) (items : List Item) (line : ℕ) → AreItems bytes items → IsFirstBad bytes line → ⊥
