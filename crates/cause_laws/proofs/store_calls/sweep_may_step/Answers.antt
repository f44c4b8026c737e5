use Rattle.cause_laws.proofs.StoreCalls.{sweeps_ask}
use Rattle.cause_laws.proofs.store_calls.sweep_may_step.Goals as goal

pub returns : goal.returns
returns c = sweeps_ask
