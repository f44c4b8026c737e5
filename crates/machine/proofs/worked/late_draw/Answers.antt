use Rattle.machine.proofs.WorkedTables.{late_draw_row}
use Rattle.machine.proofs.worked.late_draw.Goals as goal

pub returns : goal.returns
returns c = late_draw_row
