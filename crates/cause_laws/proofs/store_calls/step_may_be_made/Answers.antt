use Rattle.cause_laws.proofs.StepCalls.{steps_ask}
use Rattle.cause_laws.proofs.store_calls.step_may_be_made.Goals as goal

pub returns : goal.returns
returns c = steps_ask
