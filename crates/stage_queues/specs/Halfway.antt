-- What stands while the queues are opened, node by node.
use Rattle.std.specs.Prelude.{◌≡◌, ℕ, ◌+◌, true, [], All, flat_map}
use Rattle.queue_passes.specs.Holds.{holds}
use Rattle.request_rule.specs.Accounts.{request_account}
use Rattle.batch_rule.specs.Accounts.{first_account as first_batches}
use Rattle.settled_rule.specs.Accounts.{first_account as first_settled}
use Rattle.stage_queues.specs.declared.opening.Opening.{Opening}
use Rattle.stage_queues.specs.declared.opening.Roots.{Roots}
use Rattle.stage_queues.specs.declared.sizes.Sizes.{Sizes}
use Rattle.stage_queues.specs.Plan.{NodeRings, AreNumbered}
use Rattle.stage_queues.specs.Opening.{node_passes, session_passes, HasRoom}

-- the passes that come with a node's rings, after so many senders' passes were made
pub record AreRoots (senders : ℕ) (rings : NodeRings) (roots : Roots) : Type 0 where
  pub requests : roots.requests ≡ holds rings.requests.id (request_account true senders [] [])
  pub batches : roots.batches ≡ holds rings.batches.id first_batches
  pub settled : roots.settled ≡ holds rings.settled.id first_settled

-- the passes are those of the nodes that are opened so far
pub record IsOpening (sizes : Sizes) (opening : Opening) : Type 0 where
  pub numbered : AreNumbered opening.queues.items
  pub room : All (HasRoom (sizes.workers + 2)) opening.queues.items
  pub passes : opening.passes.items ≡ flat_map (node_passes sizes.nodes sizes.workers sizes.senders) opening.queues.items
  pub sessions : opening.sessions.items ≡ session_passes sizes.senders opening.queues.items
