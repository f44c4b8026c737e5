use Rattle.std.specs.Prelude.{◌≡◌, vec_len}
use Rattle.split_stores.proofs.opening.free_sessions.Given as goal

abbrev pub invariant-loop-number : goal.invariant-loop-number
invariant-loop-number l = vec_len l.sessions ≡ l.number
