-- Words as they stand in XML, and pieces of text one behind the other.
use Rattle.std.specs.Prelude.{ℕ, ◌+◌, ◌==◌, if◌then◌else◌, List, [], ◌∷◌, ◌++◌, codes}
use Rattle.std.specs.List.{flat_map}

-- an ampersand and an opening angle bracket stand by their names
abbrev pub escaped_byte : ℕ → List ℕ
escaped_byte b = if b == 38 then codes "&amp;" else if b == 60 then codes "&lt;" else b ∷ []

abbrev pub escaped : List ℕ → List ℕ
escaped words = flat_map escaped_byte words

-- a piece for each, in order, by its number from the given one on
unfoldable pub each_text : {X : Type 0} → (ℕ → X → List ℕ) → ℕ → List X → List ℕ
each_text piece number [] = []
each_text piece number (x ∷ xs) = piece number x ++ each_text piece (number + 1) xs
