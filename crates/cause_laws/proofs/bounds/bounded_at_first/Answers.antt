use Rattle.cause_laws.proofs.BoundsKept.{bounded_first}
use Rattle.cause_laws.proofs.bounds.bounded_at_first.Goals as goal

pub returns : goal.returns
returns c = bounded_first
