-- Small histories in which own writes stand, and in which they do not.
use Rattle.std.specs.Prelude.{ℕ, List, [], ◌∷◌, Option, None, Some}
use Rattle.stamp_base.specs.declared.stores.Store.{Store}
use Rattle.history_book.specs.declared.item.Actor.TheVariants.{Session, Janitor}
use Rattle.history_book.specs.declared.item.Found.{Found}
use Rattle.history_book.specs.declared.item.StoreStep.TheVariants.{Erase, Keys}
use Rattle.history_book.specs.declared.item.Item.{Item}
use Rattle.history_book.specs.declared.item.Item.TheVariants.{Write, Read, Step, Fault}

abbrev pub p : List ℕ
p = 112 ∷ []

abbrev pub q : List ℕ
q = 113 ∷ []

-- the transaction 1 writes p and then q at the key 0, and reads it
abbrev pub written_twice : Option Found → List Item
written_twice answer = Write 0 1 0 p ∷ Write 0 1 0 q ∷ Read 0 1 0 answer ∷ []

abbrev pub found_of_own : List ℕ → Option Found
found_of_own value = Some (record { from = 1; value = value })

-- it writes p, then this item, and reads nothing
abbrev pub missed_behind : Item → List Item
missed_behind x = Write 0 1 0 p ∷ x ∷ Read 0 1 0 None ∷ []

-- a sweep's erase of the cell
abbrev pub erases : ℕ → Item
erases key = Step Janitor (Erase key 1)

-- the keys are listed, but nothing is erased yet
abbrev pub lists : Item
lists = Step Janitor (Keys 1 1)

-- a call on this store fails: of a sweep, and of a session
abbrev pub sweep_fails : Store → Item
sweep_fails store = Fault Janitor store

abbrev pub session_fails : Store → Item
session_fails store = Fault (Session 0) store

-- the cell is erased, another key is written, and the cell is missed
abbrev pub written_elsewhere : List Item
written_elsewhere = Write 0 1 0 p ∷ erases 0 ∷ Write 0 1 1 q ∷ Read 0 1 0 None ∷ []

-- the cell is erased, written anew, and then missed
abbrev pub written_anew : List Item
written_anew = Write 0 1 0 p ∷ erases 0 ∷ Write 0 1 0 q ∷ Read 0 1 0 None ∷ []
