use Rattle.service_laws.proofs.ServiceKept as lemmas
use Rattle.service_laws.proofs.service.service_at_first.Goals as goal

pub returns : goal.returns
returns c = lemmas.service_at_first
