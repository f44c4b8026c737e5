use Rattle.cause_laws.proofs.StepCalls.{placings_place}
use Rattle.cause_laws.proofs.store_calls.placing_may_be_made.Goals as goal

pub returns : goal.returns
returns c = placings_place
