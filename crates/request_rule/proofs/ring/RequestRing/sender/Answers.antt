use Rattle.std.proofs.Common.{◌≡◌, true, sym, subst}
use Rattle.crossbeam_queue.specs.Passes.{view}
use Rattle.queue_passes.specs.Holds.{Holds}
use Rattle.request_rule.specs.declared.account.RequestAccount.{RequestAccount}
use Rattle.request_rule.proofs.Passes.{splits}
use Rattle.request_rule.proofs.ring.RequestRing.sender.Goals as goal

pub another-requires-clause-rule : goal.another-requires-clause-rule
another-requires-clause-rule c = splits _ (view c.pass.inside.pass) (subst (λ (h : Holds RequestAccount). h.account.receives ≡ true) (sym c.pass.view_is) c.requires.receiver)
