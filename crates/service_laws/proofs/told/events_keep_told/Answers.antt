use Rattle.service_laws.proofs.ToldKept as lemmas
use Rattle.service_laws.proofs.told.events_keep_told.Goals as goal

pub returns : goal.returns
returns c = lemmas.events_keep_told
