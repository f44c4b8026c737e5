use Rattle.cell_compaction.proofs.Snapshots.{snapshots_visible}
use Rattle.cell_compaction.proofs.laws.snapshots_are_visible.Goals as goal

pub returns : goal.returns
returns c = snapshots_visible
