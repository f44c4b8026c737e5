use Rattle.std.specs.Prelude.{◌≡◌, ◌-◌, true, [], map}
use Rattle.std.specs.List.{range_with_len}
use Rattle.queue_passes.specs.Holds.{holds, whole}
use Rattle.batch_rule.specs.Accounts.{batch_account}
use Rattle.settled_rule.specs.Accounts.{settled_account}
use Rattle.stage_queues.specs.Opening.{worker_pass}
use Rattle.stage_queues.proofs.opening.worker_passes.Given as goal

abbrev pub invariant-loop-worker : goal.invariant-loop-worker
invariant-loop-worker l =
    (l.passes.items ≡ map (worker_pass l.sizes.nodes l.queues) (range_with_len 0 l.worker))
    × (l.batches ≡ holds l.queues.batches.id (batch_account true (whole - l.worker) [] [] []))
    × (l.settled ≡ holds l.queues.settled.id (settled_account (whole - l.worker) [] []))
