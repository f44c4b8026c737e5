use Rattle.cause_laws.proofs.StoreCalls.{writes_bare}
use Rattle.cause_laws.proofs.store_calls.write_may_be_made.Goals as goal

pub returns : goal.returns
returns c = writes_bare
