use Rattle.grant_laws.proofs.Placings.{placings_are_carried}
use Rattle.grant_laws.proofs.carried.placings_are_carried.Goals as goal

pub returns : goal.returns
returns c = placings_are_carried
