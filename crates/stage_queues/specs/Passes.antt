-- The pass of a thread at all nodes, and what each call does to it.
use Rattle.std.specs.Prelude.{◌≡◌, ℕ, ◌+◌, ◌-◌, ◌<◌, List, length, Some, IsSomeAnd, slice_get, slice_index_or, slice_set}
use Rattle.stage_queues.specs.declared.node_pass.NodePass.{NodePass}
use Rattle.stage_queues.specs.Plan.{NodeRing, NodeRings, Plan}
use Rattle.stage_queues.specs.NodePasses.{nothing, MaySendTicket, MayTakeTicket, MaySendBatch, IsOfRing, IsNodePassOf, joined_node, TellsNode}

-- the number of a persist worker, how many batches the thread holds, and its passes at each node
pub record StageAccount : Type 0 where
  pub worker : ℕ
  pub held : ℕ
  pub nodes : List NodePass

abbrev pub pass_at : List NodePass → ℕ → NodePass
pass_at nodes node = slice_index_or nodes node nothing

abbrev pub at_node : StageAccount → ℕ → NodePass
at_node p node = pass_at p.nodes node

abbrev pub with_node : StageAccount → ℕ → NodePass → StageAccount
with_node p node new = record p { nodes = slice_set p.nodes node new }

-- a batch was sent on, or received
abbrev pub let_go : StageAccount → ℕ → NodePass → StageAccount
let_go p node new = record (with_node p node new) { held = p.held - 1 }

abbrev pub got : StageAccount → ℕ → NodePass → StageAccount
got p node new = record (with_node p node new) { held = p.held + 1 }

-- the pass reaches the queue for the call
pub record SendsTickets (queue : NodeRing) (p : StageAccount) : Type 0 where
  pub there : queue.node < length p.nodes
  pub sends : MaySendTicket queue.ring (at_node p queue.node)

pub record ReceivesTickets (queue : NodeRing) (p : StageAccount) : Type 0 where
  pub there : queue.node < length p.nodes
  pub receives : MayTakeTicket queue.ring (at_node p queue.node)

-- the number is above all that were put through the pass
pub record SendsBatches (queue : NodeRing) (number : ℕ) (p : StageAccount) : Type 0 where
  pub there : queue.node < length p.nodes
  pub sends : MaySendBatch queue.ring number (at_node p queue.node)

pub record ReceivesBatches (queue : NodeRing) (p : StageAccount) : Type 0 where
  pub there : queue.node < length p.nodes
  pub receives : IsSomeAnd (at_node p queue.node).batches (IsOfRing queue.ring)

pub record UsesSettled (queue : NodeRing) (p : StageAccount) : Type 0 where
  pub there : queue.node < length p.nodes
  pub uses : IsSomeAnd (at_node p queue.node).settled (IsOfRing queue.ring)

-- the passes are of these nodes' rings
pub record AreNodePassesOf (nodes : List NodeRings) (passes : List NodePass) : Type 0 where
  pub fit : length passes ≡ length nodes
  pub each : (node : ℕ) (rings : NodeRings) → slice_get nodes node ≡ Some rings → IsNodePassOf rings (pass_at passes node)

abbrev pub IsPassOf : Plan → StageAccount → Type 0
IsPassOf queues p = AreNodePassesOf queues.nodes p.nodes

-- one pass that has what both have
pub record IsJoined (mine theirs result : StageAccount) : Type 0 where
  pub worker : result.worker ≡ 0
  pub held : result.held ≡ mine.held + theirs.held
  pub fit : length result.nodes ≡ length mine.nodes
  pub each : (node : ℕ) → node < length mine.nodes → at_node result node ≡ joined_node (at_node mine node) (at_node theirs node)

-- what the accounts at each node tell
abbrev pub TellsAll : StageAccount → Type 0
TellsAll p = (node : ℕ) → node < length p.nodes → TellsNode (at_node p node)
