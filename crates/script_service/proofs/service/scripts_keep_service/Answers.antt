use Rattle.script_service.proofs.EventsKeep.{scripts_keep_service}
use Rattle.script_service.proofs.service.scripts_keep_service.Goals as goal

pub returns : goal.returns
returns c = scripts_keep_service (record { first = c.service_at_first.ensures; events = c.events_keep_service.ensures; now = c.service_stands.ensures }) c.events_lower_what_is_left.ensures
