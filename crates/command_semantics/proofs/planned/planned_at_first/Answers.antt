use Rattle.command_semantics.proofs.OneEvent.{planned_at_first}
use Rattle.command_semantics.proofs.planned.planned_at_first.Goals as goal

pub returns : goal.returns
returns c = planned_at_first
