use Rattle.trace_rules.proofs.Overlaps.{overlaps}
use Rattle.trace_rules.proofs.cycles.overlaps_refuse.Goals as goal

pub returns : goal.returns
returns c = overlaps
