use Rattle.machine.proofs.WorkedReading.{left_row}
use Rattle.machine.proofs.worked.reads_of_the_vanished.Goals as goal

pub returns : goal.returns
returns c = left_row
