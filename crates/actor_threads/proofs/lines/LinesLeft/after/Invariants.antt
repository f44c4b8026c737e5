use Rattle.std.specs.Prelude.{◌≡◌, drop}
use Rattle.actor_threads.specs.Lines.{own, own_left}
use Rattle.actor_threads.proofs.lines.LinesLeft.after.Given as goal

abbrev pub invariant-loop-line : goal.invariant-loop-line
invariant-loop-line l = (l.left.actor ≡ l.fn.actor) × (l.left.lines.now ≡ l.fn.lines) × (own_left l.left ≡ drop l._line (own l.fn.actor l.fn.lines))
