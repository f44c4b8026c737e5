-- How lists of cells, one for each key, hold rows.
use Rattle.std.specs.Prelude.{◌≡◌, ℕ, ◌<◌, List, [], ◌∷◌, ◌++◌, Option, None, Some, map, take, length}
use Rattle.std.specs.List.{All, AllPairs, HoldsAt}
use Rattle.std.specs.Ordering.{nat_cmp}
use Rattle.std.specs.BTreeMap as tree
use Rattle.std.specs.declared.vec.Vec.{Vec}
use Rattle.system_parts.specs.declared.rows.Cell.{Cell}
use Rattle.system_parts.specs.Rows.{Row, front_of, AreOrdered}
use Rattle.cell_store.specs.declared.rows.Rows.TheInside.{Inside}

-- the row that a cell of the key stands for
abbrev pub row_at : ℕ → Cell → Row
row_at k c = record { key = k; version = c.version; value = c.value; shadow = c.shadow }

abbrev pub rows_at : ℕ → List Cell → List Row
rows_at k cells = map (row_at k) cells

-- what a reader with this start needs of the cells that a fetch gives; one without a start, all of them
abbrev pub needed_by : Option ℕ → List Cell → List Cell
needed_by None cells = cells
needed_by (Some start) cells = front_of start cells

-- the versions of a key's cells ascend
abbrev pub AreRising : List Cell → Type 0
AreRising = AllPairs (λ (a : Cell) (b : Cell). a.version < b.version)

-- the cells before this place are of lower versions
abbrev pub AreLowerBefore : List Cell → ℕ → ℕ → Type 0
AreLowerBefore cells version at = All (λ (c : Cell). c.version < version) (take at cells)

-- the cell of the version stands at this place
pub record IsPlace (cells : List Cell) (version at : ℕ) : Type 0 where
  pub within : at < length cells
  pub lower : AreLowerBefore cells version at
  pub same : HoldsAt (λ (c : Cell). c.version ≡ version) cells at

-- the rows of all lists, key by key
abbrev pub rows_of : {A : Type 0} → List (ℕ × Vec Cell A) → List Row
rows_of [] = []
rows_of (e ∷ es) = rows_at e.0 e.1.items ++ rows_of es

-- the keys and the rows ascend
pub record IsSound (rows : Inside) : Type 0 where
  pub keys_ordered : tree.IsOrdered nat_cmp rows.lists
  pub ordered : AreOrdered (rows_of rows.lists.entries)
