use Rattle.isolation_laws.proofs.Holding.ReadsAndTerms.{draws_keep_terms}
use Rattle.isolation_laws.proofs.consequences.draws_keep_terms.Goals as goal

pub returns : goal.returns
returns c = draws_keep_terms
