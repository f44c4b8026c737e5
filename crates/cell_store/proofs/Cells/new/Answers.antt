use Rattle.std.proofs.Common.{List, sym, subst}
use Rattle.system_parts.specs.Rows.{Row}
use Rattle.cell_store.proofs.IndexKeys.{IsIndexOf, index_of_none}
use Rattle.cell_store.proofs.Cells.new.Goals as goal

pub invariant_of-result : goal.invariant_of-result
invariant_of-result c = record {
  ordered = c.new-2.ensures.ordered;
  indexed = subst (λ (rows : List Row). IsIndexOf rows c.new-2.result) (sym c.new.ensures) (index_of_none c.new-2.result c.new-2.ensures.empty).0;
  ranged = (index_of_none c.new-2.result c.new-2.ensures.empty).1;
}
