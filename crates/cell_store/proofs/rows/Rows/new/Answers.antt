use Rattle.cell_store.proofs.RowSplits.{nothing_ordered}
use Rattle.cell_store.proofs.rows.Rows.new.Goals as goal

pub invariant_of-result : goal.invariant_of-result
invariant_of-result c = record {
  keys_ordered = c.new.ensures.ordered;
  ordered = rw c.new.ensures.empty nothing_ordered;
}
