-- The commit table as a map from transactions to marks, and what each call does to it.
-- The map is known by its look-ups alone: the order of the entries is no part of it.
use Rattle.std.specs.Prelude.{ℕ, Option, None, Some}
use Rattle.std.specs.Ordering.{nat_cmp}
use Rattle.std.specs.FinMap as map
use Rattle.std.specs.FinSet as set
use Rattle.std.specs.Coded.{Coded, coded_ℕ}
use Rattle.stamp_base.specs.contracts.stores.Mark as marks
use Rattle.stamp_base.specs.declared.stores.Mark.{Mark}
use Rattle.stamp_base.specs.declared.stores.Mark.TheVariants.{Committed, Invalid}
use Rattle.system_parts.specs.declared.pairs.Put.{Put}
use Rattle.system_parts.specs.declared.pairs.Put.TheVariants.{Placed, Found}

-- the mark of each transaction that has one
abbrev pub Pairs : Type 0
Pairs = map.FinMap nat_cmp Mark

-- the transactions for which a put takes no memory
abbrev pub Places : Type 0
Places = set.FinSet nat_cmp

-- a model's value may hold them
abbrev pub pairs_code : Coded Pairs
pairs_code = map.code coded_ℕ marks.the_row.coded

abbrev pub places_code : Coded Places
places_code = set.code coded_ℕ

-- the transaction's mark
abbrev pub mark_of : Pairs → ℕ → Option Mark
mark_of pairs txn = map.get pairs txn

-- what a put finds
abbrev pub put_answer : Option Mark → Put
put_answer None = Placed
put_answer (Some mark) = Found mark

abbrev pub put_over : Pairs → ℕ → Mark → Option Mark → Pairs
put_over pairs txn mark None = map.insert pairs txn mark
put_over pairs txn mark (Some there) = pairs

-- a put adds the pair where the transaction has none; an entry that is there stays
abbrev pub put_pair : Pairs → ℕ → Mark → Pairs
put_pair pairs txn mark = put_over pairs txn mark (mark_of pairs txn)

abbrev pub removed_from : Pairs → ℕ → Option Mark → Pairs
removed_from pairs txn (Some (Committed commit)) = map.remove pairs txn
removed_from pairs txn (Some Invalid) = pairs
removed_from pairs txn None = pairs

-- a removal takes a Committed entry away; an Invalid one stays
abbrev pub without_committed : Pairs → ℕ → Pairs
without_committed pairs txn = removed_from pairs txn (mark_of pairs txn)
