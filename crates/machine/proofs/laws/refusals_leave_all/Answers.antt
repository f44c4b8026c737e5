use Rattle.machine.proofs.PartsKept.{refusals_left}
use Rattle.machine.proofs.laws.refusals_leave_all.Goals as goal

pub returns : goal.returns
returns c = refusals_left
