use Rattle.machine.proofs.PartsKept.{asked_once}
use Rattle.machine.proofs.laws.stores_are_asked_once.Goals as goal

pub returns : goal.returns
returns c = asked_once
