use Rattle.std.proofs.Common.{◌≡◌, ◌≤◌, true, sym, subst}
use Rattle.crossbeam_queue.specs.Passes.{view}
use Rattle.queue_passes.specs.Holds.{Holds}
use Rattle.batch_rule.specs.declared.account.BatchAccount.{BatchAccount}
use Rattle.batch_rule.specs.Numbers.{next_after}
use Rattle.batch_rule.proofs.Steps.{puts, tells_left}
use Rattle.batch_rule.proofs.ring.BatchRing.send.Goals as goal

pub push_as-requires-clause-rule : goal.push_as-requires-clause-rule
push_as-requires-clause-rule g c =
    let may = subst (λ (h : Holds BatchAccount). h.account.sends ≡ true) (sym c.pass.view_is) c.requires.sender in
    let above = subst (λ (h : Holds BatchAccount). next_after 0 h.account.put ≤ c.args.batch.number) (sym c.pass.view_is) c.requires.above in
    (puts _ _ (view c.pass.inside.pass) c.args.batch may above, tells_left _ _)
