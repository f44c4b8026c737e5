use Rattle.cell_compaction.proofs.Snapshots.{nothing_else_visible}
use Rattle.cell_compaction.proofs.laws.nothing_else_is_visible.Goals as goal

pub returns : goal.returns
returns c = nothing_else_visible
