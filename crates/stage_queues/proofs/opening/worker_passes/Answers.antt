use Rattle.std.proofs.Common.{◌≡◌, true, [], ap, ◌∙◌, rules}
use Rattle.queue_passes.specs.Holds.{holds}
use Rattle.batch_rule.specs.Accounts.{worker_account, batch_account, parted as parted_batches}
use Rattle.settled_rule.specs.Accounts.{new_account, settled_account, parted as parted_settled}
use Rattle.stage_queues.proofs.OpeningLemmas.{one_more_worker, part_less}
use Rattle.stage_queues.proofs.opening.worker_passes.Goals as goal

pub loop-worker-preserved : goal.loop-worker-preserved
loop-worker-preserved c =
    let batch_ring = c.args.queues.now.batches.id in
    let settled_ring = c.args.queues.now.settled.id in
    let batches : c.worker.result ≡ holds batch_ring worker_account = search rules in
    let settled : c.further.result ≡ holds settled_ring new_account = search rules in
    let b : c.worker.new.pass ≡ holds batch_ring (parted_batches c.loop-worker.batches.account) = search rules in
    let s : c.further.new.pass ≡ holds settled_ring (parted_settled c.loop-worker.settled.account) = search rules in
    let items = one_more_worker _ c.loop-worker.worker c.args.queues.now c.loop-worker.passes.items c.in_ok-one_node_pass.field-0 c.worker.result c.further.result c.loop-worker.invariant.0 c.in_ok-one_node_pass.ensures batches settled in
    let less = part_less c.loop-worker.worker in (
      c.in_ok-push.ensures.items ∙ items,
      b ∙ (λ k. holds batch_ring (parted_batches (c.loop-worker.invariant.1 k).account)) ∙ ap (λ n. holds batch_ring (batch_account true n [] [] [])) less,
      s ∙ (λ k. holds settled_ring (parted_settled (c.loop-worker.invariant.2 k).account)) ∙ ap (λ n. holds settled_ring (settled_account n [] [])) less,
    )
