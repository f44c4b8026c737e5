use Rattle.command_semantics.proofs.AnyOrder.{events_stay_told}
use Rattle.command_semantics.proofs.planned.events_stay_told.Goals as goal

pub returns : goal.returns
returns c = events_stay_told
