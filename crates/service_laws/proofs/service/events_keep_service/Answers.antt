use Rattle.service_laws.proofs.ServiceKept as lemmas
use Rattle.service_laws.proofs.service.events_keep_service.Goals as goal

pub returns : goal.returns
returns c = lemmas.events_keep_service
