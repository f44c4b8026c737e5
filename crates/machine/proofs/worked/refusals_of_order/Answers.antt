use Rattle.machine.proofs.WorkedPaths.{order_row}
use Rattle.machine.proofs.worked.refusals_of_order.Goals as goal

pub returns : goal.returns
returns c = order_row
