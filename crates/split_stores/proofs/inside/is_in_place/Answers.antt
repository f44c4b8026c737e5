use Rattle.std.proofs.Common.{rules}
use Rattle.split_stores.proofs.inside.is_in_place.Goals as goal

pub returns-then-are_sessions : goal.returns-then-are_sessions
returns-then-are_sessions c = rw c.in-Crash.is (λ t. (c.are_sessions.ensures.0 (search rules), c.is_node-then-are_sessions.ensures.0 t), λ p. c.is_node-then-are_sessions.ensures.1 p.1)
