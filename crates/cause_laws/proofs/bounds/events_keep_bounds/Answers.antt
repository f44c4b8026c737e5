use Rattle.cause_laws.proofs.BoundsKept.{bounds_stay}
use Rattle.cause_laws.proofs.bounds.events_keep_bounds.Goals as goal

pub returns : goal.returns
returns c = bounds_stay
