-- The queues and passes as they are opened.
use Rattle.std.specs.Prelude.{◌≡◌, ℕ, ◌-◌, true, List, [], ◌∷◌, ◌++◌, None, Some, map, flat_map, replicate, slice_set}
use Rattle.std.specs.List.{range_with_len}
use Rattle.queue_passes.specs.Holds.{holds, whole}
use Rattle.request_rule.specs.Accounts.{request_account, sender_account}
use Rattle.batch_rule.specs.Accounts.{batch_account, worker_account}
use Rattle.settled_rule.specs.Accounts.{settled_account, new_account}
use Rattle.stage_queues.specs.declared.node_pass.NodePass.{NodePass}
use Rattle.stage_queues.specs.Plan.{NodeRings, Plan}
use Rattle.stage_queues.specs.NodePasses.{nothing}
use Rattle.stage_queues.specs.Passes.{StageAccount, IsPassOf}

-- The request stage's pass at its node: it receives tickets and sends batches, and has the parts that no worker has
abbrev pub request_stage_part : ℕ → ℕ → NodeRings → NodePass
request_stage_part workers senders rings = record {
  requests = Some (holds rings.requests.id (request_account true senders [] []));
  batches = Some (holds rings.batches.id (batch_account true (whole - workers) [] [] []));
  settled = None;
}

-- a persist worker's: it receives batches and sends them on as settled
abbrev pub worker_part : NodeRings → NodePass
worker_part rings = record { requests = None; batches = Some (holds rings.batches.id worker_account); settled = Some (holds rings.settled.id new_account) }

-- the reply stage's: it receives settled batches
abbrev pub reply_stage_part : ℕ → NodeRings → NodePass
reply_stage_part workers rings = record { requests = None; batches = None; settled = Some (holds rings.settled.id (settled_account (whole - workers) [] [])) }

-- a session's thread's: it sends tickets
abbrev pub sender_part : ℕ → NodeRings → NodePass
sender_part sender rings = record { requests = Some (holds rings.requests.id (sender_account sender)); batches = None; settled = None }

-- a stage's pass has something at its node alone
abbrev pub stage_pass : ℕ → ℕ → ℕ → NodePass → StageAccount
stage_pass nodes node worker part = record { worker = worker; held = 0; nodes = slice_set (replicate nodes nothing) node part }

abbrev pub worker_pass : ℕ → NodeRings → ℕ → StageAccount
worker_pass nodes rings worker = stage_pass nodes rings.node worker (worker_part rings)

-- a session's pass reaches every node
abbrev pub session_pass : List NodeRings → ℕ → StageAccount
session_pass rings sender = record { worker = 0; held = 0; nodes = map (sender_part sender) rings }

-- of one node: the request stage's, each worker's, the reply stage's
abbrev pub node_passes : ℕ → ℕ → ℕ → NodeRings → List StageAccount
node_passes nodes workers senders rings =
    stage_pass nodes rings.node 0 (request_stage_part workers senders rings)
    ∷ (map (worker_pass nodes rings) (range_with_len 0 workers) ++ stage_pass nodes rings.node 0 (reply_stage_part workers rings) ∷ [])

abbrev pub session_passes : ℕ → List NodeRings → List StageAccount
session_passes senders rings = map (session_pass rings) (range_with_len 0 senders)

-- node by node, and then those of the sessions' threads
abbrev pub opened_passes : ℕ → ℕ → ℕ → List NodeRings → List StageAccount
opened_passes nodes workers senders rings = flat_map (node_passes nodes workers senders) rings ++ session_passes senders rings

-- for how much each queue of a node has room
pub record HasRoom (buffers : ℕ) (rings : NodeRings) : Type 0 where
  pub requests : rings.requests.room ≡ 64
  pub batches : rings.batches.room ≡ buffers
  pub settled : rings.settled.room ≡ buffers

-- a pass of these queues that holds nothing
pub record IsNew (plan : Plan) (p : StageAccount) : Type 0 where
  pub holds : p.held ≡ 0
  pub queues : IsPassOf plan p
