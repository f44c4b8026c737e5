use Rattle.service_laws.proofs.ToldKept as lemmas
use Rattle.service_laws.proofs.told.one_outcome_is_told.Goals as goal

pub returns : goal.returns
returns c = lemmas.one_outcome_is_told
