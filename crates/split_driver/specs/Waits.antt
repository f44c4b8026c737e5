-- Lines that wait for a name stand behind the line that posts it.
use Rattle.std.specs.Prelude.{◌≡◌, ℕ, true, if◌then◌else◌, List, [], ◌∷◌, ◌++◌}
use Rattle.history_book.specs.declared.item.Item.{Item}
use Rattle.history_book.specs.declared.item.Item.TheVariants as item
use Rattle.history_book.specs.declared.item.Note.TheVariants as note
use Rattle.session_script.specs.PostedNames.{is_posted}

-- the names that are posted after one more item
abbrev pub names_behind : List (List ℕ) → Item → List (List ℕ)
names_behind names (item.Note actor (note.Post name)) = if is_posted names name then names else names ++ name ∷ []
names_behind names x = names

-- the name that is awaited is one of these
abbrev pub IsThere : List (List ℕ) → Item → Type 0
IsThere names (item.Note actor (note.Await name)) = is_posted names name ≡ true
IsThere names x = Unit {0}

-- behind items that have posted these names, each name that is awaited was posted before
unfoldable pub WaitedFrom : List (List ℕ) → List Item → Type 0
WaitedFrom names [] = Unit {0}
WaitedFrom names (x ∷ xs) = IsThere names x × WaitedFrom (names_behind names x) xs

abbrev pub Waited : List Item → Type 0
Waited items = WaitedFrom [] items
