use Rattle.machine.proofs.WorkedRecalls.{marked_row}
use Rattle.machine.proofs.worked.recalled_mark.Goals as goal

pub returns : goal.returns
returns c = marked_row
