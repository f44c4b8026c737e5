-- Own writes stand: a read misses its transaction's own last write only behind a sweep's erase of that very cell.
use Rattle.std.specs.Prelude.{◌≡◌, ℕ, ◌==◌, Bool, false, ◌&&◌, List, Option, None, Some, ◌⊎◌}
use Rattle.stamp_base.specs.declared.stores.Store.TheVariants.{Cells}
use Rattle.history_book.specs.Members.{◌∈◌, AtEach}
use Rattle.history_book.specs.Isolation.{last_write}
use Rattle.history_book.specs.declared.item.Actor.TheVariants.{Janitor}
use Rattle.history_book.specs.declared.item.Found.{Found}
use Rattle.history_book.specs.declared.item.StoreStep.TheVariants.{Erase}
use Rattle.history_book.specs.declared.item.Item.{Item}
use Rattle.history_book.specs.declared.item.Item.TheVariants.{Write, Read, Step, Fault}
use Rattle.cause_rules.specs.Since.{since}

-- the item is a write of the transaction t at the key k
abbrev pub writes_at : ℕ → ℕ → Item → Bool
writes_at t k (Write session start key value) = (start == t) && (key == k)
writes_at t k _ = false

-- a sweep erases the cell of t at k, or one of its calls on the cells fails, which may have erased it
abbrev pub ErasedIn : List Item → ℕ → ℕ → Type 0
ErasedIn part t k = (Step Janitor (Erase k t) ∈ part) ⊎ (Fault Janitor Cells ∈ part)

-- so it is since the last write of t at k
abbrev pub ErasedSince : List Item → ℕ → ℕ → Type 0
ErasedSince before t k = ErasedIn (since (writes_at t k) before) t k

-- what t wrote last at k before is the answer, or its cell was erased since
abbrev pub OwnStands : List Item → ℕ → ℕ → Option Found → Option (List ℕ) → Type 0
OwnStands before t k answer None = Unit {0}
OwnStands before t k answer (Some own) = (answer ≡ Some (record { from = t; value = own })) ⊎ ErasedSince before t k

abbrev pub ReadsOwn : List Item → Item → Type 0
ReadsOwn before (Read session t k answer) = OwnStands before t k answer (last_write before t k)
ReadsOwn before _ = Unit {0}

-- at each read of the history
abbrev pub OwnWritesStand : List Item → Type 0
OwnWritesStand h = AtEach ReadsOwn h
