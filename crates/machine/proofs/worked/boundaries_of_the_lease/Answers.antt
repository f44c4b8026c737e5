use Rattle.machine.proofs.WorkedPaths.{boundary_row}
use Rattle.machine.proofs.worked.boundaries_of_the_lease.Goals as goal

pub returns : goal.returns
returns c = boundary_row
