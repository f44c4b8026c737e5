use Rattle.isolation_laws.proofs.AlwaysHolds.{dues}
use Rattle.cause_laws.proofs.refusals_are_due.Goals as goal

pub returns : goal.returns
returns c = dues
