use Rattle.std.proofs.Common.{◌∙◌, ap, refl, ◌+◌, List}
use Rattle.stamp_base.specs.Setups.{numbers_of}
use Rattle.port_io.specs.Planned.{PlannedFault, planned_fate}
use Rattle.planned_cluster.proofs.Making.{opens}
use Rattle.planned_cluster.proofs.planned.PlannedCluster.open.Goals as goal

pub returns-clause-opens : goal.returns-clause-opens
returns-clause-opens c =
    opens (numbers_of c.args.setup) c.args.faults.now _ 0 _ c.in_ok-open.ensures.state c.in_ok-open.ensures.history refl
    (λ store n. c.new.ensures.ahead store n ∙ ap (λ (faults : List PlannedFault). planned_fate faults store (n + 1)) c.in_ok-copied.ensures)
