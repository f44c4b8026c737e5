use Rattle.isolation_laws.proofs.Holding.LostPlacings.{faulted_placings_lose}
use Rattle.isolation_laws.proofs.consequences.faulted_placings_lose_commits.Goals as goal

pub returns : goal.returns
returns c = faulted_placings_lose
