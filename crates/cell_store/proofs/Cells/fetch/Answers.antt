use Rattle.system_parts.proofs.RowFetches.{fetched-falls, fetched-upto}
use Rattle.cell_store.proofs.Cells.fetch.Goals as goal

pub returns-clause-falling : goal.returns-clause-falling
returns-clause-falling g c = rw (c.in_ok-answered_under.ensures.value, c.in_ok-all.ensures.cells) (fetched-falls _ c.args.key c.args.upto c.in_ok-all.ensures.ordered)

pub returns-clause-upto : goal.returns-clause-upto
returns-clause-upto g c = rw (c.in_ok-answered_under.ensures.value, c.in_ok-all.ensures.cells) (fetched-upto _ c.args.key c.args.upto)
