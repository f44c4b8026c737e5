use Rattle.grant_laws.proofs.KeptRequests.{requests_stay}
use Rattle.grant_laws.proofs.carried.requests_stay.Goals as goal

pub returns : goal.returns
returns c = requests_stay
