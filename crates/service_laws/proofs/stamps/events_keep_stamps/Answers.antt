use Rattle.service_laws.proofs.StampsKept as lemmas
use Rattle.service_laws.proofs.stamps.events_keep_stamps.Goals as goal

pub returns : goal.returns
returns c = lemmas.events_keep_stamps
