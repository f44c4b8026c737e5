use Rattle.std.proofs.Common.{◌<◌, sym, subst}
use Rattle.crossbeam_queue.specs.Passes.{view}
use Rattle.queue_passes.specs.Holds.{Holds}
use Rattle.settled_rule.specs.declared.account.SettledAccount.{SettledAccount}
use Rattle.settled_rule.proofs.Steps.{splits}
use Rattle.settled_rule.proofs.ring.SettledRing.further.Goals as goal

pub another-requires-clause-rule : goal.another-requires-clause-rule
another-requires-clause-rule c = splits _ (view c.pass.inside.pass) (subst (λ (h : Holds SettledAccount). 1 < h.account.parts) (sym c.pass.view_is) c.requires.parts)
