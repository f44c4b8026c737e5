use Rattle.cause_laws.proofs.StoreCalls.{heals_only}
use Rattle.cause_laws.proofs.store_calls.heal_may_be_made.Goals as goal

pub returns : goal.returns
returns c = heals_only
