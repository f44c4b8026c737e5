-- The queues of all nodes as their contracts see them.
use Rattle.std.specs.Prelude.{◌≡◌, ℕ, Bool, List, Some, slice_get}
use Rattle.queue_passes.specs.Holds.{Ring}

-- one queue: of which node it is, and its ring
pub record NodeRing : Type 0 where
  pub node : ℕ
  pub ring : Ring

abbrev pub node_ring : ℕ → Ring → NodeRing
node_ring node ring = record { node = node; ring = ring }

-- the rings of one node's queues
pub record NodeRings : Type 0 where
  pub node : ℕ
  pub requests : Ring
  pub batches : Ring
  pub settled : Ring

-- the rings of all nodes, how many buffers each node's pool has, and whether sessions place their commits
pub record Plan : Type 0 where
  pub nodes : List NodeRings
  pub buffers : ℕ
  pub direct : Bool

-- the nodes stand in the order of their numbers
abbrev pub AreNumbered : List NodeRings → Type 0
AreNumbered nodes = (n : ℕ) (rings : NodeRings) → slice_get nodes n ≡ Some rings → rings.node ≡ n
