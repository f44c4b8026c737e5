use Rattle.command_semantics.proofs.Ending.{runs_end}
use Rattle.command_semantics.proofs.laws.runs_end.Goals as goal

pub returns : goal.returns
returns c = runs_end c.events_lower_what_is_left.ensures
