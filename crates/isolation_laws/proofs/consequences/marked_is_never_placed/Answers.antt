use Rattle.isolation_laws.proofs.Holding.ReadsAndTerms.{marked_is_never_placed}
use Rattle.isolation_laws.proofs.consequences.marked_is_never_placed.Goals as goal

pub returns : goal.returns
returns c = marked_is_never_placed
