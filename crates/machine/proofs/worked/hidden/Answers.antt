use Rattle.machine.proofs.WorkedPaths.{forgotten_row, unwritten_row, kept_row}
use Rattle.machine.proofs.worked.hidden.Goals as goal

pub returns-clause-forgotten : goal.returns-clause-forgotten
returns-clause-forgotten c = forgotten_row

pub returns-clause-unwritten : goal.returns-clause-unwritten
returns-clause-unwritten c = unwritten_row

pub returns-clause-kept : goal.returns-clause-kept
returns-clause-kept c = kept_row
