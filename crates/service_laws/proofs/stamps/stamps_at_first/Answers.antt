use Rattle.service_laws.proofs.StampsKept as lemmas
use Rattle.service_laws.proofs.stamps.stamps_at_first.Goals as goal

pub returns : goal.returns
returns c = lemmas.stamps_at_first
