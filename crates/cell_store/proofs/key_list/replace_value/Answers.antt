use Rattle.std.proofs.Common.{is_some, set, sym, ap, ◌∙◌}
use Rattle.system_parts.specs.declared.rows.Cell.{Cell}
use Rattle.cell_store.specs.KeyLists.{rows_at, IsPlace}
use Rattle.cell_store.proofs.KeyRows.{rows-put_at}
use Rattle.cell_store.proofs.key_list.replace_value.Goals as goal

pub returns-in-Some : goal.returns-in-Some
returns-in-Some c = λ k there.
    let cells = c.args.cells.now.items in
    let place : IsPlace cells c.args.version c.in-Some.at = rw c.deref.ensures.value at c.in-Some.ensures.place in
    ap (λ (x : Cell). rows_at k (set cells c.in-Some.at (record x { value = c.args.value }))) c.index_mut.ensures.value
    ∙ rows-put_at k c.args.version c.in-Some.at c.args.value cells c.index_mut.result.now place

pub returns-in_default : goal.returns-in_default
returns-in_default c = λ k there.
    let none = rw c.deref.ensures.value at (c.place_of.ensures.none k c.in_default.is) in
    let no = sym there ∙ ap is_some none in
    absurd (cc)
