-- The cells and the commit table, of transactions that may still be placed and of those that are.
use Rattle.std.specs.Prelude.{◌≡◌, ℕ, ◌⊎◌, List, Option, None, Some}
use Rattle.history_book.specs.Isolation.{Committed, last_write, WasListed}
use Rattle.history_book.specs.declared.item.Item.{Item}
use Rattle.system_parts.specs.declared.rows.Cell.{Cell}
use Rattle.system_parts.specs.Rows.{Row, looked, AreOrdered}
use Rattle.system_parts.specs.Pairs.{Pairs}
use Rattle.system_parts.specs.Instance.{InstanceEntry}
use Rattle.machine.specs.State.{Client}
use Rattle.isolation_laws.specs.Words.{Begun, Marked, HasRecord, cell_with}
use Rattle.isolation_laws.specs.Pending.{Live}

-- the rows ascend; a row's version was begun, and a shadow is the version's commit
pub record AreRows (rows : List Row) (h : List Item) : Type 0 where
  pub ordered : AreOrdered rows
  pub begun : (k t : ℕ) (cell : Cell) → looked rows k t ≡ Some cell → (s : ℕ) × Begun h s t
  pub placed : (k t c : ℕ) (cell : Cell) → looked rows k t ≡ Some cell → cell.shadow ≡ Some c → Committed h t c

-- a record in the commit table is that of a placed commit
pub record ArePairs (pairs : Pairs) (h : List Item) : Type 0 where
  pub placed : (t c : ℕ) → HasRecord pairs t c → Committed h t c

-- the transaction was marked, and the keys of its cells were listed, as a sweep does
pub record IsSwept (pairs : Pairs) (h : List Item) (t : ℕ) : Type 0 where
  pub marked : Marked pairs t
  pub listed : WasListed h t

-- what may still be placed has bare cells with its last writes and no others, but that a sweep which has marked it erases
-- them
pub record AreLiveCells (clients : List Client) (nodes : List (Option InstanceEntry)) (rows : List Row) (pairs : Pairs) (h : List Item) : Type 0 where
  pub bare : (t k : ℕ) → Live clients nodes t → (looked rows k t ≡ cell_with t None (last_write h t k)) ⊎ ((looked rows k t ≡ None) × IsSwept pairs h t)

-- what is placed has cells with its last writes and no others, each bare or with its commit as shadow
abbrev pub IsPlacedCell : List Row → List Item → ℕ → ℕ → ℕ → Type 0
IsPlacedCell rows h t c k = (looked rows k t ≡ cell_with t None (last_write h t k)) ⊎ (looked rows k t ≡ cell_with t (Some c) (last_write h t k))

-- all cells of the transaction have their shadow
abbrev pub AreShadowed : List Row → List Item → ℕ → ℕ → Type 0
AreShadowed rows h t c = (k : ℕ) → looked rows k t ≡ cell_with t (Some c) (last_write h t k)

-- and the commit table has its record, or all its cells have their shadow
pub record ArePlacedCells (rows : List Row) (pairs : Pairs) (h : List Item) : Type 0 where
  pub cells : (t c k : ℕ) → Committed h t c → IsPlacedCell rows h t c k
  pub found : (t c : ℕ) → Committed h t c → HasRecord pairs t c ⊎ AreShadowed rows h t c

pub record CellFacts (clients : List Client) (nodes : List (Option InstanceEntry)) (rows : List Row) (pairs : Pairs) (h : List Item) : Type 0 where
  pub rows_are : AreRows rows h
  pub pairs_are : ArePairs pairs h
  pub live : AreLiveCells clients nodes rows pairs h
  pub placed : ArePlacedCells rows pairs h
