use Rattle.part_laws.proofs.EventsLocal.{events}
use Rattle.part_laws.proofs.events_are_local.Goals as goal

pub returns : goal.returns
returns c = events
