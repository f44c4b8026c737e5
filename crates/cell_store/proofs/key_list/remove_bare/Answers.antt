use Rattle.std.proofs.Common.{Some, sym, ap, ◌∙◌}
use Rattle.system_parts.specs.declared.rows.Cell.{Cell}
use Rattle.system_parts.proofs.RowVersions.{without_bare_absent, without_bare_shadowed}
use Rattle.cell_store.specs.KeyLists.{rows_at, IsPlace}
use Rattle.cell_store.proofs.KeyRows.{looked-place, rows-removed_at}
use Rattle.cell_store.proofs.Shadows.{shadow_is_none, shadow_is_some, unwrapped}
use Rattle.cell_store.proofs.key_list.remove_bare.Goals as goal

pub returns-then-is_none : goal.returns-then-is_none
returns-then-is_none c = λ k.
    let cells = c.args.cells.now.items in
    let place : IsPlace cells c.args.version c.in-Some.at = rw c.deref.ensures.value at c.in-Some.ensures.place in
    let bare = ap (λ (x : Cell). x.shadow) (sym c.index.ensures) ∙ shadow_is_none c.index.result.now.shadow c.is_none.result c.is_none.ensures c.if-is_none.true in
    ap (rows_at k) c.remove.ensures.items ∙ rows-removed_at k c.args.version c.in-Some.at cells c.index.result.now place bare

pub returns-else-is_none : goal.returns-else-is_none
returns-else-is_none c = λ k.
    let cells = c.args.cells.now.items in
    let place : IsPlace cells c.args.version c.in-Some.at = rw c.deref.ensures.value at c.in-Some.ensures.place in
    let found = looked-place k c.args.version c.in-Some.at cells c.index.result.now place ∙ ap Some (sym c.index.ensures) in
    sym (without_bare_shadowed (rows_at k cells) k c.args.version (unwrapped c.index.result.now.shadow) c.index.result.now found (shadow_is_some c.index.result.now.shadow c.is_none.result c.is_none.ensures c.if-is_none.false))

pub returns-in_default : goal.returns-in_default
returns-in_default c = λ k.
    sym (without_bare_absent (rows_at k c.args.cells.now.items) k c.args.version (rw c.deref.ensures.value at (c.place_of.ensures.none k c.in_default.is)))
