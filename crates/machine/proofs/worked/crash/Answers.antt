use Rattle.machine.proofs.WorkedTables.{crash_row}
use Rattle.machine.proofs.worked.crash.Goals as goal

pub returns : goal.returns
returns c = crash_row
