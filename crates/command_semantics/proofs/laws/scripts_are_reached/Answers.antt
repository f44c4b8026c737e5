use Rattle.command_semantics.proofs.Ending.{scripts_are_reached}
use Rattle.command_semantics.proofs.laws.scripts_are_reached.Goals as goal

pub returns : goal.returns
returns c = scripts_are_reached c.events_lower_what_is_left.ensures
