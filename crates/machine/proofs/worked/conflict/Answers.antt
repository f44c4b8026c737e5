use Rattle.machine.proofs.WorkedTables.{conflict_row}
use Rattle.machine.proofs.worked.conflict.Goals as goal

pub returns : goal.returns
returns c = conflict_row
