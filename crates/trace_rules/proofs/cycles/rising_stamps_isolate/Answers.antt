use Rattle.trace_rules.proofs.Isolates.{isolates}
use Rattle.trace_rules.proofs.cycles.rising_stamps_isolate.Goals as goal

pub returns : goal.returns
returns c = isolates
