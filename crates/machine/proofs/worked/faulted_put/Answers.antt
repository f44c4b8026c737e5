use Rattle.machine.proofs.WorkedTables.{unplaced_row, unheard_row}
use Rattle.machine.proofs.worked.faulted_put.Goals as goal

pub returns-clause-unchanged : goal.returns-clause-unchanged
returns-clause-unchanged c = unplaced_row

pub returns-clause-applied : goal.returns-clause-applied
returns-clause-applied c = unheard_row
