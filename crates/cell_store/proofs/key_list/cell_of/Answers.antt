use Rattle.std.proofs.Common.{Some, sym, ap, ◌∙◌}
use Rattle.cell_store.proofs.KeyRows.{looked-place}
use Rattle.cell_store.proofs.key_list.cell_of.Goals as goal

pub returns-in-Some : goal.returns-in-Some
returns-in-Some c = λ k. ap Some c.index-cells-at.is ∙ sym (looked-place k c.args.version c.in-Some.at c.args.cells.now c.index-cells-at.result c.in-Some.ensures.place)
