-- Small stores beside the definitions of compaction.
use Rattle.std.specs.Prelude.{ℕ, List, [], ◌∷◌, Option, None, Some}
use Rattle.std.specs.FinMap as map
use Rattle.stamp_base.specs.declared.stores.Mark.TheVariants as mark
use Rattle.history_book.specs.declared.item.Item.{Item}
use Rattle.history_book.specs.declared.item.Item.TheVariants.{Write, Placed}
use Rattle.system_parts.specs.Rows.{Row}
use Rattle.system_parts.specs.Pairs.{Pairs, put_pair}

abbrev pub p : List ℕ
p = 112 ∷ []

abbrev pub q : List ℕ
q = 113 ∷ []

abbrev pub row_of : ℕ → ℕ → List ℕ → Option ℕ → Row
row_of k t value shadow = record { key = k; version = t; value = value; shadow = shadow }

abbrev pub no_pairs : Pairs
no_pairs = map.empty

-- the transaction 1 wrote p to the key 0, and was committed at 2
abbrev pub one_commit : List Item
one_commit = Write 0 1 0 p ∷ Placed 1 2 ∷ []

abbrev pub record_of_first : Pairs
record_of_first = put_pair no_pairs 1 (mark.Committed 2)

-- the key 0 has a row with each commit of 2, 4 and 6, and the key 1 a row that is not committed
abbrev pub four_rows : List Row
four_rows = row_of 0 1 p (Some 2) ∷ row_of 0 3 q (Some 4) ∷ row_of 0 5 p (Some 6) ∷ row_of 1 7 q None ∷ []
