use Rattle.std.proofs.Common.{List, sym, subst}
use Rattle.system_parts.specs.Rows.{Row}
use Rattle.cell_store.proofs.IndexKeys.{IsIndexOf, index_put_again}
use Rattle.cell_store.proofs.Cells.replace_under.Goals as goal

pub invariant_of-self : goal.invariant_of-self
invariant_of-self c =
    let there = rw (← c.self.view_is) at c.requires.there in
    let bare = rw (← c.self.view_is) at c.requires.bare in
    record {
      ordered = c.self.invariant.ordered;
      indexed = subst (λ (rows : List Row). IsIndexOf rows c.self.inside.index) (sym c.replace_value.ensures) (index_put_again c.self.inside.rows c.self.inside.index c.args.key c.args.version c.args.value c.self.invariant.indexed bare there);
      ranged = c.self.invariant.ranged;
    }
