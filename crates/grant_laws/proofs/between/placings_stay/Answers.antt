use Rattle.grant_laws.proofs.Placings.{placings_stay}
use Rattle.grant_laws.proofs.between.placings_stay.Goals as goal

pub returns : goal.returns
returns c = placings_stay
