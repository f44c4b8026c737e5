use Rattle.isolation_laws.proofs.Holding.ReadsAndTerms.{leases_are_of_the_term}
use Rattle.isolation_laws.proofs.consequences.leases_are_of_the_term.Goals as goal

pub returns : goal.returns
returns c = leases_are_of_the_term
