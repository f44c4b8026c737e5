use Rattle.isolation_laws.proofs.Holding.LostCommits.{crashes_lose}
use Rattle.isolation_laws.proofs.consequences.crashes_lose_commits.Goals as goal

pub returns : goal.returns
returns c = crashes_lose
