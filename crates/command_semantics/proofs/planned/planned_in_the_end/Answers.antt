use Rattle.command_semantics.proofs.OneEvent.{planned_in_the_end}
use Rattle.command_semantics.proofs.planned.planned_in_the_end.Goals as goal

pub returns : goal.returns
returns c = planned_in_the_end
