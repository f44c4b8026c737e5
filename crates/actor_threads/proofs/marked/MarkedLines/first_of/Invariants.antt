use Rattle.std.specs.Prelude.{◌≡◌, drop}
use Rattle.actor_threads.specs.Lines.{own}
use Rattle.actor_threads.proofs.marked.MarkedLines.first_of.Given as goal

-- none of the lines so far is the actor's
abbrev pub invariant-loop-place : goal.invariant-loop-place
invariant-loop-place l = own l.actor (drop l.place l.self) ≡ own l.actor (drop l.fn.from l.self)
