use Rattle.grant_laws.proofs.OneEvent.{writes_are_granted}
use Rattle.grant_laws.proofs.granted.writes_are_granted.Goals as goal

pub returns : goal.returns
returns c = writes_are_granted
