use Rattle.turn_rules.proofs.OwnEvents.{own_lowers}
use Rattle.turn_rules.proofs.laws.own_events_lower_what_is_left.Goals as goal

pub returns : goal.returns
returns c = own_lowers c.events_lower_what_is_left.ensures
