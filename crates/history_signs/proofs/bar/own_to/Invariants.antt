use Rattle.std.proofs.Common.{◌≡◌, ◌≤◌, drop, length}
use Rattle.history_signs.specs.Bars.{own_to}
use Rattle.history_signs.proofs.bar.own_to.Given as goal

abbrev pub invariant-loop-left : goal.invariant-loop-left
invariant-loop-left l = record {
  rest : own_to l.left l.session l.start l.reached l.place (drop l.place l.items) ≡ own_to 2000 l.session l.start l.fn.bar l.fn.from (drop l.fn.from l.items);
  within : l.place ≤ length l.items;
  reached : (l.fn.bar.to ≤ l.fn.from) → (l.reached.to ≤ l.place);
}

abbrev pub decreases-loop-left : goal.decreases-loop-left
decreases-loop-left l = l.left
