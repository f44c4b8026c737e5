-- The cells of a store as rows, in ascending order of key and version, and what each call does to them.
use Rattle.std.specs.Prelude.{◌≡◌, ℕ, ◌<◌, ◌≤◌, ◌==◌, nat_lt, nat_le, Bool, false, ◌&&◌, ◌⊎◌, if◌then◌else◌, List, [], ◌∷◌, ◌++◌, Option, None, Some, IfSome}
use Rattle.std.specs.List.{All, AllPairs}
use Rattle.system_parts.specs.declared.rows.Cell.{Cell}

pub record Row : Type 0 where
  pub key : ℕ
  pub version : ℕ
  pub value : List ℕ
  pub shadow : Option ℕ

-- the row is the one of this key and this version
abbrev pub is_row : ℕ → ℕ → Row → Bool
is_row k t r = (r.key == k) && (r.version == t)

abbrev pub cell_of : Row → Cell
cell_of r = record { version = r.version; value = r.value; shadow = r.shadow }

abbrev pub bare_row : ℕ → ℕ → List ℕ → Row
bare_row k t v = record { key = k; version = t; value = v; shadow = None }

-- the row stands before the place of this key and this version
abbrev pub is_before : Row → ℕ → ℕ → Bool
is_before r k t = if r.key == k then nat_lt r.version t else nat_lt r.key k

-- a put writes the value into the row that is there, or as a new bare one at its place
unfoldable pub put_row : List Row → ℕ → ℕ → List ℕ → List Row
put_row [] k t v = bare_row k t v ∷ []
put_row (r ∷ rs) k t v =
    if is_row k t r then record r { value = v } ∷ rs
    else if is_before r k t then r ∷ put_row rs k t v
    else bare_row k t v ∷ r ∷ rs

-- a fetch gives the key's cells of version at most upto, the greatest version first
unfoldable pub fetched : List Row → ℕ → ℕ → List Cell
fetched [] k upto = []
fetched (r ∷ rs) k upto =
    if (r.key == k) && nat_le r.version upto then fetched rs k upto ++ cell_of r ∷ [] else fetched rs k upto

-- the greatest version first, each version once
abbrev pub AreFalling : List Cell → Type 0
AreFalling = AllPairs (λ (a : Cell) (b : Cell). b.version < a.version)

-- no version is above this one
abbrev pub AreUpto : ℕ → List Cell → Type 0
AreUpto upto = All (λ (c : Cell). c.version ≤ upto)

-- there is a shadow, and it is below the start
abbrev pub is_below : ℕ → Option ℕ → Bool
is_below start None = false
is_below start (Some commit) = nat_lt commit start

-- the cells down to the first whose shadow is below the start, with it; all of them where there is none
unfoldable pub front_of : ℕ → List Cell → List Cell
front_of start [] = []
front_of start (c ∷ cs) = if is_below start c.shadow then c ∷ [] else c ∷ front_of start cs

-- a look gives the cell of the key and the version, where there is one
unfoldable pub looked : List Row → ℕ → ℕ → Option Cell
looked [] k t = None
looked (r ∷ rs) k t = if is_row k t r then Some (cell_of r) else looked rs k t

-- the row of the key and the version has no shadow, where it is there
abbrev pub IsBare : List Row → ℕ → ℕ → Type 0
IsBare rows k t = IfSome (looked rows k t) (λ cell. cell.shadow ≡ None)

-- a shadow of the row of the key and the version is this commit
abbrev pub HasOnly : List Row → ℕ → ℕ → ℕ → Type 0
HasOnly rows k t c = IfSome (looked rows k t) (λ cell. IfSome cell.shadow (λ there. there ≡ c))

-- a cell that a put leaves
abbrev pub bare_cell : ℕ → List ℕ → Cell
bare_cell t v = record { version = t; value = v; shadow = None }

-- the cell that a shadow leaves, where there is one
abbrev pub shadowed : ℕ → Option Cell → Option Cell
shadowed c None = None
shadowed c (Some cell) = Some (record cell { shadow = Some c })

-- a shadow is set on the row that is there
unfoldable pub with_shadow : List Row → ℕ → ℕ → ℕ → List Row
with_shadow [] k t c = []
with_shadow (r ∷ rs) k t c = if is_row k t r then record r { shadow = Some c } ∷ rs else r ∷ with_shadow rs k t c

-- the row without its place, where its shadow is empty
abbrev pub unless_bare : Row → Option ℕ → List Row → List Row
unless_bare r None rs = rs
unless_bare r (Some c) rs = r ∷ rs

-- a bare row is removed; a row with a shadow stays
unfoldable pub without_bare : List Row → ℕ → ℕ → List Row
without_bare [] k t = []
without_bare (r ∷ rs) k t = if is_row k t r then unless_bare r r.shadow rs else r ∷ without_bare rs k t

-- the keys of a version's rows, ascending
unfoldable pub keys_of_version : List Row → ℕ → List ℕ
keys_of_version [] t = []
keys_of_version (r ∷ rs) t = if r.version == t then r.key ∷ keys_of_version rs t else keys_of_version rs t

-- the row stands before all of these
unfoldable pub IsBelowAll : Row → List Row → Type 0
IsBelowAll r [] = Unit {0}
IsBelowAll r (x ∷ xs) = ((r.key < x.key) ⊎ ((r.key ≡ x.key) × (r.version < x.version))) × IsBelowAll r xs

-- the rows ascend by key and version, so that no key and version stand twice
unfoldable pub AreOrdered : List Row → Type 0
AreOrdered [] = Unit {0}
AreOrdered (r ∷ rs) = IsBelowAll r rs × AreOrdered rs
