use Rattle.std.specs.Prelude.{◌≡◌, map, take}
use Rattle.thread_steps.specs.Done.{first_cursor}
use Rattle.thread_steps.proofs.cursor.first_cursors.Given as goal

abbrev pub invariant-loop-actor : goal.invariant-loop-actor
invariant-loop-actor l = l.cursors.items ≡ map first_cursor (take l.actor-index l.actors)
