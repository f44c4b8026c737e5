use Rattle.trace_rules.proofs.Overlaps.{lost_updates}
use Rattle.trace_rules.proofs.cycles.lost_updates_refuse.Goals as goal

pub returns : goal.returns
returns c = lost_updates
