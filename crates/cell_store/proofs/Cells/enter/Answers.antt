use Rattle.std.proofs.Common.{◌≡◌, List, sym, subst, ap, ◌∙◌}
use Rattle.system_parts.specs.Rows.{Row, without_bare}
use Rattle.system_parts.proofs.RowVersions.{without_bare-put_row}
use Rattle.cell_store.specs.Seen.{SeenCells}
use Rattle.cell_store.proofs.IndexKeys.{index_entered, ranged_entered, index_same, ranged_same, IsIndexOf}
use Rattle.cell_store.proofs.Cells.enter.Goals as goal

pub invariant_of-self-in-Ok : goal.invariant_of-self-in-Ok
invariant_of-self-in-Ok c =
    let absent = rw (← c.self.view_is) at c.requires in
    record {
      ordered = c.insert.ensures.ordered;
      indexed = subst (λ (rows : List Row). IsIndexOf rows c.insert.new.self) (sym c.in_ok-enter.ensures.ok) (index_entered c.self.inside.rows c.self.inside.index c.insert.new.self c.args.key c.args.version c.args.value c.self.invariant.indexed absent c.in-Ok.ensures.updates);
      ranged = ranged_entered c.self.inside.index c.insert.new.self c.args.key c.args.version c.self.invariant.ranged c.value.ensures.range c.in-Ok.ensures.updates;
    }

-- the row that was put is taken away again
rows_back : (c : goal.After-remove_bare) → c.remove_bare.new.self ≡ c.self.inside.rows
rows_back c =
    let absent = rw (← c.self.view_is) at c.requires in
    c.remove_bare.ensures ∙ ap (λ rows. without_bare rows c.args.key c.args.version) c.in_ok-enter.ensures.ok ∙ without_bare-put_row c.self.inside.rows c.args.key c.args.version c.args.value absent

pub invariant_of-self-in-Err : goal.invariant_of-self-in-Err
invariant_of-self-in-Err c = record {
  ordered = c.insert.ensures.ordered;
  indexed = subst (λ (rows : List Row). IsIndexOf rows c.insert.new.self) (sym (rows_back c)) (index_same c.self.inside.rows c.self.inside.index c.insert.new.self c.self.invariant.indexed c.in-Err.ensures.err);
  ranged = ranged_same c.self.inside.index c.insert.new.self c.self.invariant.ranged c.in-Err.ensures.err;
}

seen : List Row → SeenCells
seen rows = record { rows = rows }

pub returns-in-Err-clause-err : goal.returns-in-Err-clause-err
unfolding seen
returns-in-Err-clause-err c = ap seen (rows_back c) ∙ c.self.view_is
