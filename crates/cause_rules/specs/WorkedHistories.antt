-- Histories that end with a refusal, and a value to write.
use Rattle.std.specs.Prelude.{ℕ, List, [], ◌∷◌, ◌++◌}
use Rattle.stamp_base.specs.declared.stores.Store.TheVariants.{Table, Master}
use Rattle.history_book.specs.declared.cause.Cause.{Cause}
use Rattle.history_book.specs.declared.item.Actor.{Actor}
use Rattle.history_book.specs.declared.item.Actor.TheVariants.{Node, Session}
use Rattle.history_book.specs.declared.item.Item.{Item}
use Rattle.history_book.specs.declared.item.Item.TheVariants.{Fault, Crash, Refused}

-- the actor is refused after these items
abbrev pub told : List Item → Actor → Cause → List Item
told before actor why = before ++ Refused actor why ∷ []

-- the actor is refused between these items
abbrev pub told_between : List Item → Actor → Cause → List Item → List Item
told_between before actor why later = before ++ Refused actor why ∷ later

abbrev pub v : List ℕ
v = 118 ∷ []

-- a node's crash, and its faults on two stores
abbrev pub crash_of : ℕ → List Item
crash_of node = Crash node 1 ∷ []

abbrev pub table_fault : ℕ → List Item
table_fault node = Fault (Node node) Table ∷ []

abbrev pub master_fault : ℕ → List Item
master_fault node = Fault (Node node) Master ∷ []

-- a session's fault on the commit table
abbrev pub session_fault : ℕ → List Item
session_fault session = Fault (Session session) Table ∷ []
