use Rattle.std.proofs.Common.{◌<◌, length, sym, subst}
use Rattle.crossbeam_queue.specs.Passes.{view}
use Rattle.queue_passes.specs.Holds.{Holds}
use Rattle.request_rule.specs.declared.account.RequestAccount.{RequestAccount}
use Rattle.request_rule.proofs.Steps.{puts, tells_left}
use Rattle.request_rule.proofs.ring.RequestRing.send.Goals as goal

pub push_as-requires-clause-rule : goal.push_as-requires-clause-rule
push_as-requires-clause-rule g c = (puts _ _ (view c.pass.inside.pass) c.args.ticket (subst (λ (h : Holds RequestAccount). 0 < length h.account.rows) (sym c.pass.view_is) c.requires.sender), tells_left _ _)
