use Rattle.machine.proofs.WorkedTables.{early_put_row}
use Rattle.machine.proofs.worked.put_before_the_read.Goals as goal

pub returns : goal.returns
returns c = early_put_row
