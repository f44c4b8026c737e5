use Rattle.machine.proofs.WorkedPaths.{own_row}
use Rattle.machine.proofs.worked.own_writes.Goals as goal

pub returns : goal.returns
returns c = own_row
