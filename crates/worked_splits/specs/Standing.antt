-- Parts of which a session's transaction can begin and write.
use Rattle.std.specs.Prelude.{ℕ, IsSome}
use Rattle.split_parts.specs.Agrees.{HasNode, HasSession}
use Rattle.split_parts.specs.Parts.{Parts, LeasesBySetup}

-- the session, the clock, the node, the cells and the master record are lent, which leases by the setup
pub record Stands (session node : ℕ) (l : Parts) : Type 0 where
  pub session_there : HasSession l session
  pub clock : IsSome l.clock
  pub node_there : HasNode l node
  pub cells : IsSome l.cells
  pub master : IsSome l.master
  pub leases : LeasesBySetup l
