use Rattle.trace_rules.proofs.Forced.{wrong_outer, wrong_own}
use Rattle.trace_rules.proofs.cycles.wrong_reads_refuse.Goals as goal

pub returns : goal.returns
returns c = record { outer = wrong_outer; own = wrong_own }
