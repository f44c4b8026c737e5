use Rattle.std.proofs.Common.{Some, set, sym, ap, ◌∙◌}
use Rattle.system_parts.specs.declared.rows.Cell.{Cell}
use Rattle.cell_store.specs.KeyLists.{rows_at, IsPlace}
use Rattle.cell_store.proofs.KeyRows.{rows-shadow_at}
use Rattle.cell_store.proofs.RowSplits.{shadow_absent}
use Rattle.cell_store.proofs.key_list.fill_shadow.Goals as goal

pub returns-in-Some : goal.returns-in-Some
returns-in-Some c = λ k.
    let cells = c.args.cells.now.items in
    let place : IsPlace cells c.args.version c.in-Some.at = rw c.deref.ensures.value at c.in-Some.ensures.place in
    ap (λ (x : Cell). rows_at k (set cells c.in-Some.at (record x { shadow = Some c.args.commit }))) c.index_mut.ensures.value
    ∙ rows-shadow_at k c.args.version c.in-Some.at c.args.commit cells c.index_mut.result.now place

pub returns-in_default : goal.returns-in_default
returns-in_default c = λ k.
    sym (shadow_absent (rows_at k c.args.cells.now.items) k c.args.version c.args.commit (rw c.deref.ensures.value at (c.place_of.ensures.none k c.in_default.is)))
