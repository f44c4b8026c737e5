use Rattle.std.proofs.Common.{◌≡◌, ◌+◌, ◌≤◌, ◌-◌, drop, length}
use Rattle.history_signs.specs.Bars.{bar_to}
use Rattle.history_signs.proofs.bar.bar_from.Given as goal

abbrev pub invariant-loop-place : goal.invariant-loop-place
invariant-loop-place l = record {
  rest : bar_to l.opener l.bar l.place (drop l.place l.items) ≡ bar_to l.opener (record { to = l.opened; kind = l.fn.kind }) (l.opened + 1) (drop (l.opened + 1) l.items);
  reached : l.bar.to ≤ l.place;
  within : l.place ≤ length l.items;
}

abbrev pub decreases-loop-place : goal.decreases-loop-place
decreases-loop-place l = length l.items - l.place
