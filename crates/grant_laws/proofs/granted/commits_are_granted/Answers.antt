use Rattle.grant_laws.proofs.CommitLines.{commits_are_granted}
use Rattle.grant_laws.proofs.granted.commits_are_granted.Goals as goal

pub returns : goal.returns
returns c = commits_are_granted c.events_lower_what_is_left.ensures
