use Rattle.std.specs.Prelude.{ℕ, ◌<◌}
use Rattle.split_parts.specs.Parts.{seen}
use Rattle.split_stores.specs.Locks.{IsSession}
use Rattle.split_stores.proofs.inside.are_sessions.Given as goal

abbrev pub invariant-loop-number : goal.invariant-loop-number
invariant-loop-number l = (session : ℕ) → session < l.number → IsSession (seen l.lent) session
