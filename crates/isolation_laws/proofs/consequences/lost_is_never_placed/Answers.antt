use Rattle.isolation_laws.proofs.Holding.ReadsAndTerms.{lost_is_never_placed}
use Rattle.isolation_laws.proofs.consequences.lost_is_never_placed.Goals as goal

pub returns : goal.returns
returns c = lost_is_never_placed
