use Rattle.grant_laws.proofs.BeginLines.{begins_are_granted}
use Rattle.grant_laws.proofs.granted.begins_are_granted.Goals as goal

pub returns : goal.returns
returns c = begins_are_granted c.events_lower_what_is_left.ensures
