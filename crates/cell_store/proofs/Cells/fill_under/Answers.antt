use Rattle.std.proofs.Common.{List, sym, subst}
use Rattle.system_parts.specs.Rows.{Row}
use Rattle.cell_store.proofs.IndexKeys.{IsIndexOf, index_shadow}
use Rattle.cell_store.proofs.Cells.fill_under.Goals as goal

pub invariant_of-self : goal.invariant_of-self
invariant_of-self c = record {
  ordered = c.self.invariant.ordered;
  indexed = subst (λ (rows : List Row). IsIndexOf rows c.self.inside.index) (sym c.fill_shadow.ensures) (index_shadow c.self.inside.rows c.self.inside.index c.args.key c.args.version c.args.commit c.self.invariant.indexed);
  ranged = c.self.invariant.ranged;
}
