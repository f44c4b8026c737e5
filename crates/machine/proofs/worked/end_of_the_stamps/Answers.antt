use Rattle.machine.proofs.WorkedPaths.{end_row}
use Rattle.machine.proofs.worked.end_of_the_stamps.Goals as goal

pub returns : goal.returns
returns c = end_row
