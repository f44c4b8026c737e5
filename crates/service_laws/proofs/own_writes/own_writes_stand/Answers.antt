use Rattle.service_laws.proofs.OwnKept as lemmas
use Rattle.service_laws.proofs.own_writes.own_writes_stand.Goals as goal

pub returns : goal.returns
returns c = lemmas.own_always
