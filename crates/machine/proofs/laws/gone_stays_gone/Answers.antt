use Rattle.machine.proofs.GoneStays.{gone_stays}
use Rattle.machine.proofs.laws.gone_stays_gone.Goals as goal

pub returns : goal.returns
returns c = gone_stays
