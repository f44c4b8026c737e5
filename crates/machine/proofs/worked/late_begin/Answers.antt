use Rattle.machine.proofs.WorkedPaths.{expired_row, old_row}
use Rattle.machine.proofs.worked.late_begin.Goals as goal

pub returns-clause-old_node : goal.returns-clause-old_node
returns-clause-old_node c = expired_row

pub returns-clause-new_node : goal.returns-clause-new_node
returns-clause-new_node c = old_row
