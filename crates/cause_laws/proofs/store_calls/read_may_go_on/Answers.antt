use Rattle.cause_laws.proofs.StoreCalls.{reads_fetched}
use Rattle.cause_laws.proofs.store_calls.read_may_go_on.Goals as goal

pub returns : goal.returns
returns c = reads_fetched
