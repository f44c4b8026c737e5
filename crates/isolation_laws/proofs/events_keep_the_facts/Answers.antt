use Rattle.isolation_laws.proofs.AlwaysHolds.{facts_stay}
use Rattle.isolation_laws.proofs.events_keep_the_facts.Goals as goal

pub returns : goal.returns
returns c = facts_stay
