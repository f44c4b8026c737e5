use Rattle.command_semantics.proofs.OneEvent.{events_stay_planned}
use Rattle.command_semantics.proofs.planned.events_stay_planned.Goals as goal

pub returns : goal.returns
returns c = events_stay_planned
