use Rattle.machine.proofs.PartsKept.{seen_up}
use Rattle.machine.proofs.laws.seen_goes_up.Goals as goal

pub returns : goal.returns
returns c = seen_up
