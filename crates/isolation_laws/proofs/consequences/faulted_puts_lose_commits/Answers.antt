use Rattle.isolation_laws.proofs.Holding.LostCommits.{faulted_puts_lose}
use Rattle.isolation_laws.proofs.consequences.faulted_puts_lose_commits.Goals as goal

pub returns : goal.returns
returns c = faulted_puts_lose
