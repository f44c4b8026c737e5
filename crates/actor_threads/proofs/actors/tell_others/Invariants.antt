use Rattle.std.specs.Prelude.{◌≡◌, drop}
use Rattle.actor_threads.specs.Lines.{own_left}
use Rattle.actor_threads.proofs.actors.tell_others.Given as goal

abbrev pub invariant-loop-line : goal.invariant-loop-line
invariant-loop-line g l = (l.left.actor ≡ l.fn.left.actor) × (own_left l.left ≡ drop l._line (own_left l.fn.left))
