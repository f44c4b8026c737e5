use Rattle.std.proofs.Common.{◌≤◌}
use Rattle.system_parts.specs.declared.rows.Cell.{Cell}
use Rattle.system_parts.proofs.RowFetches.{fetched-falls, fetched-upto, front-falls, front-all}
use Rattle.cell_store.proofs.Cells.front.Goals as goal

pub returns-clause-falling : goal.returns-clause-falling
returns-clause-falling c = rw c.in_ok-front.ensures.cells (front-falls c.args.start _ (fetched-falls _ c.args.key c.args.start c.in_ok-front.ensures.ordered))

pub returns-clause-upto : goal.returns-clause-upto
returns-clause-upto c = rw c.in_ok-front.ensures.cells (front-all (λ (cell : Cell). cell.version ≤ c.args.start) c.args.start _ (fetched-upto _ c.args.key c.args.start))
