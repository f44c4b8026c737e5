-- What a history told last, and what stands in it since an item.
use Rattle.std.specs.Prelude.{List, [], ◌∷◌, ◌++◌, Bool, if◌then◌else◌, Option, None}
use Rattle.std.specs.List.{fold}
use Rattle.std.specs.Option.{option_or}
use Rattle.history_book.specs.declared.item.Item.{Item}

-- what an item tells takes the place of what was told before it
abbrev pub told_then : {A : Type 0} → (Item → Option A) → Option A → Item → Option A
told_then told last x = option_or (told x) last

-- the last that an item of the history told
abbrev pub last_told : {A : Type 0} → (Item → Option A) → List Item → Option A
last_told told h = fold (told_then told) None h

-- an item of the kind begins anew
abbrev pub since_then : (Item → Bool) → List Item → Item → List Item
since_then begins part x = if begins x then [] else part ++ x ∷ []

-- the part of the history after the last item of the kind; all of it where there is none
abbrev pub since : (Item → Bool) → List Item → List Item
since begins h = fold (since_then begins) [] h
