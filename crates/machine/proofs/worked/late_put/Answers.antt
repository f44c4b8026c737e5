use Rattle.machine.proofs.WorkedTables.{late_put_row}
use Rattle.machine.proofs.worked.late_put.Goals as goal

pub returns : goal.returns
returns c = late_put_row
