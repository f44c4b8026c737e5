use Rattle.machine.proofs.WorkedPaths.{range_row}
use Rattle.machine.proofs.worked.ranges.Goals as goal

pub returns : goal.returns
returns c = range_row
