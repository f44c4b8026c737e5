use Rattle.std.proofs.Common.{◌≤◌, drop, ap, ◌∙◌}
use Rattle.std.specs.List.{All, insert}
use Rattle.system_parts.specs.declared.rows.Cell.{Cell}
use Rattle.cell_store.specs.KeyLists.{rows_at, AreLowerBefore}
use Rattle.cell_store.proofs.KeyRows.{gap_from_none, rows-inserted}
use Rattle.cell_store.proofs.key_list.enter.Goals as goal

pub returns-clause-ok : goal.returns-clause-ok
returns-clause-ok c = λ k absent.
    let cells = c.args.cells.now.items in
    let lower : AreLowerBefore cells c.args.version c.count_lower-at.result = rw c.deref.ensures.value at c.count_lower-at.ensures.lower in
    let from : All (λ (x : Cell). c.args.version ≤ x.version) (drop c.count_lower-at.result cells) = rw c.deref.ensures.value at c.count_lower-at.ensures.higher in
    let higher = gap_from_none k c.args.version c.count_lower-at.result cells c.requires lower from absent in
    ap (rows_at k) c.in_ok-insert.ensures.items ∙ ap (λ (x : Cell). rows_at k (insert cells c.count_lower-at.result x)) c.bare.ensures ∙ rows-inserted k c.args.version c.count_lower-at.result c.args.value cells lower higher
