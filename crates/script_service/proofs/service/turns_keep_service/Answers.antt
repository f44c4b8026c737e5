use Rattle.script_service.proofs.TurnsKeep.{turns_keep_service}
use Rattle.script_service.proofs.service.turns_keep_service.Goals as goal

pub returns : goal.returns
returns c = turns_keep_service (record { first = c.service_at_first.ensures; events = c.events_keep_service.ensures; now = c.service_stands.ensures })
