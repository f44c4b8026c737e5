use Rattle.std.proofs.Common.{◌≡◌, ◌≤◌, length}
use Rattle.std.specs.Prelude.{map, vec_len}
use Rattle.std.specs.Vec.{vec_capacity}
use Rattle.split_driver.specs.Actors.{task}
use Rattle.split_driver.proofs.threads.start_all.Given as goal

abbrev pub invariant-loop-job : goal.invariant-loop-job
invariant-loop-job g l =
    (l.threads.items ≡ map (task l.script.lines.items) l.yielded)
    × (vec_len l.threads ≡ length l.yielded)
    × (vec_len l.fn.jobs ≤ vec_capacity l.threads)
