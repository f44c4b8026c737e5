use Rattle.machine.proofs.WorkedTables.{vanish_row}
use Rattle.machine.proofs.worked.vanished_session.Goals as goal

pub returns : goal.returns
returns c = vanish_row
