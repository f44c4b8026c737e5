use Rattle.service_laws.proofs.OwnKept as lemmas
use Rattle.service_laws.proofs.own_writes.events_keep_own_writes.Goals as goal

pub returns : goal.returns
returns c = lemmas.events_keep_own
