use Rattle.std.proofs.Common.{subst, sym, true, ◌≡◌}
use Rattle.crossbeam_queue.specs.Passes.{view}
use Rattle.queue_passes.specs.Holds.{Holds}
use Rattle.request_rule.specs.declared.account.RequestAccount.{RequestAccount}
use Rattle.request_rule.proofs.Steps.{takes, tells_empty}
use Rattle.request_rule.proofs.ring.RequestRing.receive.Goals as goal

pub pop_as-requires-clause-rule : goal.pop_as-requires-clause-rule
pop_as-requires-clause-rule g c = (takes _ (view c.pass.inside.pass) (subst (λ (h : Holds RequestAccount). h.account.receives ≡ true) (sym c.pass.view_is) c.requires.receiver), tells_empty _ _)
