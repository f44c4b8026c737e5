-- The row that a row of the program stands for.
use Rattle.system_parts.specs.Rows.{Row}
use Rattle.cell_store.specs.KeyLists.{row_at}
use Rattle.cell_store.specs.declared.at_rest.Row as program

abbrev pub row_of : program.Row → Row
row_of r = row_at r.key r.cell
