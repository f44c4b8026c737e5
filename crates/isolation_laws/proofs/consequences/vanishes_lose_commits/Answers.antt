use Rattle.isolation_laws.proofs.Holding.LostPlacings.{vanishes_lose}
use Rattle.isolation_laws.proofs.consequences.vanishes_lose_commits.Goals as goal

pub returns : goal.returns
returns c = vanishes_lose
