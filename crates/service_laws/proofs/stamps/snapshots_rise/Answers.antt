use Rattle.service_laws.proofs.StampsKept as lemmas
use Rattle.service_laws.proofs.stamps.snapshots_rise.Goals as goal

pub returns : goal.returns
returns c = lemmas.snapshots_rise
