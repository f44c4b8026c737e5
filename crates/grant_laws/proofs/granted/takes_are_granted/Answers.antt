use Rattle.grant_laws.proofs.OneEvent.{takes_are_granted}
use Rattle.grant_laws.proofs.granted.takes_are_granted.Goals as goal

pub returns : goal.returns
returns c = takes_are_granted c.events_lower_what_is_left.ensures
