use Rattle.machine.proofs.PartsKept.{leaves_parts}
use Rattle.machine.proofs.laws.events_leave_parts.Goals as goal

pub returns : goal.returns
returns c = leaves_parts
