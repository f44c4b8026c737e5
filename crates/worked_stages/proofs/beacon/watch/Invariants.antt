use Rattle.std.specs.Prelude.{◌≡◌}
use Rattle.worked_stages.proofs.beacon.watch.Given as goal

abbrev pub invariant-loop-round : goal.invariant-loop-round
invariant-loop-round g l = l.pass.beacon ≡ l.beacon
