-- The names that are posted, as contracts see them.
use Rattle.std.specs.Prelude.{ℕ, Bool, true, false, List, [], ◌∷◌, ◌++◌, if◌then◌else◌, Option, None, Some}
use Rattle.history_book.specs.declared.item.Note.TheVariants as note
use Rattle.machine.specs.declared.event.Event.{Event}
use Rattle.machine.specs.declared.event.Event.TheVariants as event
use Rattle.std.specs.Str.{bytes_eq}
use Rattle.std.specs.List.{list_any}

abbrev pub is_posted : List (List ℕ) → List ℕ → Bool
is_posted names name = list_any (bytes_eq name) names

abbrev pub names_after : List (List ℕ) → Event → List (List ℕ)
names_after names (event.Note actor (note.Post name)) = if is_posted names name then names else names ++ name ∷ []
names_after names _ = names

-- the names, and for how many more there is room
pub record Posted : Type 0 where
  pub names : List (List ℕ)
  pub room : ℕ

abbrev pub with_name : List (List ℕ) → Option (List ℕ) → List (List ℕ)
with_name names None = names
with_name names (Some name) = names ++ name ∷ []

-- the name, unless it is posted
abbrev pub new_name : List (List ℕ) → List ℕ → Option (List ℕ)
new_name names name = if is_posted names name then None else Some name

-- the event posts a name
abbrev pub posts : Event → Bool
posts (event.Note actor (note.Post name)) = true
posts _ = false
