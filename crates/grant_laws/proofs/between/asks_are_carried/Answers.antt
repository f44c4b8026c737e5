use Rattle.grant_laws.proofs.AskTurns.{asks_are_carried}
use Rattle.grant_laws.proofs.between.asks_are_carried.Goals as goal

pub returns : goal.returns
returns c = asks_are_carried
