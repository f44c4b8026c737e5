use Rattle.service_laws.proofs.StampsKept as lemmas
use Rattle.service_laws.proofs.stamps.stamps_are_fresh.Goals as goal

pub returns : goal.returns
returns c = lemmas.stamps_are_fresh
