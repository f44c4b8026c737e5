use Rattle.std.proofs.Common.{◌≡◌, ◌++◌, map}
use Rattle.cell_store.specs.KeyLists.{rows_of}
use Rattle.cell_store.specs.AtRest.{row_of}
use Rattle.cell_store.proofs.at_rest.rows_in.Given as goal

abbrev pub invariant-loop-key : goal.invariant-loop-key
invariant-loop-key l = map row_of l.rows.items ++ rows_of l.key-iterator ≡ rows_of l.lists.entries
