use Rattle.machine.proofs.WorkedPaths.{fault_row}
use Rattle.machine.proofs.worked.faulted_take_and_write.Goals as goal

pub returns : goal.returns
returns c = fault_row
