use Rattle.machine.proofs.StopsKept.{stops_kept}
use Rattle.machine.proofs.laws.instances_keep_stops.Goals as goal

pub returns : goal.returns
returns c = stops_kept
