use Rattle.machine.proofs.WorkedTables.{wait_row}
use Rattle.machine.proofs.worked.not_yet.Goals as goal

pub returns : goal.returns
returns c = wait_row
