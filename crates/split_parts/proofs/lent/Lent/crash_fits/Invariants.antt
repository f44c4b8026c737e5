use Rattle.split_parts.proofs.Names.{ℕ, ◌<◌, IsAsked, filled, seen}
use Rattle.split_parts.proofs.lent.Lent.crash_fits.Given as goal

abbrev pub invariant-loop-number : goal.invariant-loop-number
invariant-loop-number l = (session : ℕ) → session < l.number → IsAsked (filled (seen l.self)) l.node session
