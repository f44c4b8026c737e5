-- Where the pass of a stage reaches.
use Rattle.std.specs.Prelude.{◌≡◌, ◌≢◌, ℕ, ◌<◌, length}
use Rattle.stage_queues.specs.Plan.{Plan}
use Rattle.stage_queues.specs.NodePasses.{nothing}
use Rattle.stage_queues.specs.Passes.{StageAccount, IsPassOf, at_node}

-- a pass of these queues that reaches one node alone
pub record ReachesNode (queues : Plan) (node : ℕ) (p : StageAccount) : Type 0 where
  pub there : node < length queues.nodes
  pub of : IsPassOf queues p
  pub alone : (other : ℕ) → other ≢ node → at_node p other ≡ nothing
