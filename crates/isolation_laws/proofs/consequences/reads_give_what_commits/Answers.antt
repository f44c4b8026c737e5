use Rattle.isolation_laws.proofs.Holding.ReadsAndTerms.{reads_give_what_commits}
use Rattle.isolation_laws.proofs.consequences.reads_give_what_commits.Goals as goal

pub returns : goal.returns
returns c = reads_give_what_commits
