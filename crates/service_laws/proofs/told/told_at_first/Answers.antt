use Rattle.service_laws.proofs.ToldKept as lemmas
use Rattle.service_laws.proofs.told.told_at_first.Goals as goal

pub returns : goal.returns
returns c = lemmas.told_at_first
