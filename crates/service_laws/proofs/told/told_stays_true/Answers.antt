use Rattle.service_laws.proofs.ToldKept as lemmas
use Rattle.service_laws.proofs.told.told_stays_true.Goals as goal

pub returns : goal.returns
returns c = lemmas.told_stays_true
