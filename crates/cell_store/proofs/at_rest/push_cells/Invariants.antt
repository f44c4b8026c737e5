use Rattle.std.proofs.Common.{◌≡◌, ◌++◌, map, take}
use Rattle.cell_store.specs.KeyLists.{rows_at}
use Rattle.cell_store.specs.AtRest.{row_of}
use Rattle.cell_store.proofs.at_rest.push_cells.Given as goal

abbrev pub invariant-loop-cell : goal.invariant-loop-cell
invariant-loop-cell l = map row_of l.rows.items ≡ map row_of l.fn.rows.items ++ rows_at l.key (take l.cell-index l.cells)
