use Rattle.refusal_reasons.proofs.DecidedLemmas.{all_decided, explained_found, sought_fit}
use Rattle.refusal_reasons.proofs.laws.refusals_are_decided.Goals as goal

pub returns-clause-decided : goal.returns-clause-decided
returns-clause-decided c = all_decided

pub returns-clause-explained : goal.returns-clause-explained
returns-clause-explained c = explained_found

pub returns-clause-fit : goal.returns-clause-fit
returns-clause-fit c = sought_fit
