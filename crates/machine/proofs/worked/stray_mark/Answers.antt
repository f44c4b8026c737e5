use Rattle.machine.proofs.WorkedTables.{stray_row}
use Rattle.machine.proofs.worked.stray_mark.Goals as goal

pub returns : goal.returns
returns c = stray_row
