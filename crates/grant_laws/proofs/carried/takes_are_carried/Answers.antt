use Rattle.grant_laws.proofs.OwnCarried.{takes_are_carried}
use Rattle.grant_laws.proofs.carried.takes_are_carried.Goals as goal

pub returns : goal.returns
returns c = takes_are_carried c.turns_keep_facts.ensures
