use Rattle.machine.proofs.WorkedTables.{plain_row}
use Rattle.machine.proofs.worked.plain_path.Goals as goal

pub returns : goal.returns
returns c = plain_row
