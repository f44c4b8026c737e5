use Rattle.isolation_laws.proofs.AlwaysHolds.{stands_at_first}
use Rattle.isolation_laws.proofs.facts_hold_at_first.Goals as goal

pub returns : goal.returns
returns c = stands_at_first
