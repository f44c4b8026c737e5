-- Sets of stamps.
use Rattle.std.specs.Prelude.{◌≡◌, ℕ, true, nat_eq}
use Rattle.std.specs.declared.hash.FoldHasher.{FoldHasher}
use Rattle.std.specs.declared.hash.BuildHasherDefault.{BuildHasherDefault}
use Rattle.std.specs.HashSet.{HashSet, contains}

abbrev pub StampSet : Type 0
StampSet = HashSet ℕ (BuildHasherDefault FoldHasher)

-- the set has the stamp
abbrev pub Has : StampSet → ℕ → Type 0
Has stamps t = contains nat_eq stamps t ≡ true

-- what the old set has the new one has
abbrev pub HasAll : StampSet → StampSet → Type 0
HasAll old new = (t : ℕ) → Has old t → Has new t
