use Rattle.cell_compaction.proofs.KeptRows.{archives_visible}
use Rattle.cell_compaction.proofs.laws.archives_are_visible.Goals as goal

pub returns : goal.returns
returns c = archives_visible
