use Rattle.std.proofs.Common.{◌≡◌, take}
use Rattle.std.specs.Prelude.{All}
use Rattle.split_driver.specs.declared.ending.End.TheVariants.{ClusterModel}
use Rattle.split_driver.specs.declared.jobs.Job.{Job}
use Rattle.split_driver.specs.Actors.{IsThrough, IsSpentBy}
use Rattle.split_driver.proofs.ending.end_of.Given as goal

abbrev pub invariant-loop-one : goal.invariant-loop-one
invariant-loop-one l = (l.end ≡ ClusterModel → All (λ (p : Job). IsThrough p.answer) (take l.one-index l.played)) × IsSpentBy l.played l.end
