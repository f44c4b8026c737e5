use Rattle.machine.proofs.WorkedReading.{full_row}
use Rattle.machine.proofs.worked.too_many_keys_read.Goals as goal

pub returns : goal.returns
returns c = full_row
