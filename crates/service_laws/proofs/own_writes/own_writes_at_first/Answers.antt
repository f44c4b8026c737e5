use Rattle.service_laws.proofs.OwnKept as lemmas
use Rattle.service_laws.proofs.own_writes.own_writes_at_first.Goals as goal

pub returns : goal.returns
returns c = lemmas.own_at_first
