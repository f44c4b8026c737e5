use Rattle.isolation_laws.proofs.AlwaysHolds.{histories_are_isolated}
use Rattle.isolation_laws.proofs.always_isolated.Goals as goal

pub returns : goal.returns
returns c = histories_are_isolated
