use Rattle.std.specs.Prelude.{◌≡◌, ◌++◌, drop, take}
use Rattle.thread_steps.specs.Done.{caught_up}
use Rattle.thread_steps.proofs.cursor.move_up.Given as goal

abbrev pub invariant-loop-number : goal.invariant-loop-number
invariant-loop-number l = record {
  same : l.cursors.items ≡ l.fn.cursors.items;
  others : take l.number l.cursors.items ++ caught_up l.actor l.place (drop l.number l.cursors.items) ≡ caught_up l.actor l.place l.cursors.items;
}
