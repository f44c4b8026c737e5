-- How many calls on the stores have failed, by what is told.
use Rattle.std.specs.Prelude.{ℕ, Bool, true, false, List, count_by}
use Rattle.history_book.specs.declared.item.Item.{Item}
use Rattle.history_book.specs.declared.item.Item.TheVariants.{Fault}

abbrev pub is_fault : Item → Bool
is_fault (Fault actor store) = true
is_fault _ = false

abbrev pub faults_in : List Item → ℕ
faults_in h = count_by is_fault h
