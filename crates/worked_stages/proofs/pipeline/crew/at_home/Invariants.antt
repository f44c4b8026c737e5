use Rattle.std.proofs.Common.{◌≡◌}
use Rattle.worked_stages.proofs.pipeline.crew.at_home.Given as goal

abbrev pub invariant-loop-count : goal.invariant-loop-count
invariant-loop-count g l = l.pass.held ≡ l.count
