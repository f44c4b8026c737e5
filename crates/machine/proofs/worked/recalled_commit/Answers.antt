use Rattle.machine.proofs.WorkedRecalls.{recalled_row, forgotten_row}
use Rattle.machine.proofs.worked.recalled_commit.Goals as goal

pub returns-clause-recalled : goal.returns-clause-recalled
returns-clause-recalled c = recalled_row

pub returns-clause-forgotten : goal.returns-clause-forgotten
returns-clause-forgotten c = forgotten_row
