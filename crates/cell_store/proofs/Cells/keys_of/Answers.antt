use Rattle.system_parts.proofs.RowVersions.{keys_of_version-ascend}
use Rattle.cell_store.proofs.Cells.keys_of.Goals as goal

pub returns-clause-ascending : goal.returns-clause-ascending
returns-clause-ascending g c = rw (c.in_ok-answered_under.ensures.value, c.in_ok-keys.ensures.value) (keys_of_version-ascend _ c.args.version c.in_ok-keys.ensures.ordered)
