use Rattle.grant_laws.proofs.OwnCarried.{writes_are_carried}
use Rattle.grant_laws.proofs.carried.writes_are_carried.Goals as goal

pub returns : goal.returns
returns c = writes_are_carried
