use Rattle.grant_laws.proofs.StageTurns.{extensions_are_carried}
use Rattle.grant_laws.proofs.carried.extensions_are_carried.Goals as goal

pub returns : goal.returns
returns c = extensions_are_carried c.turns_keep_facts.ensures
