use Rattle.service_laws.proofs.ServiceKept as lemmas
use Rattle.service_laws.proofs.service.service_is_kept.Goals as goal

pub returns : goal.returns
returns c = lemmas.service_is_kept
