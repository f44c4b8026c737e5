use Rattle.std.proofs.Common.{◌≡◌, ◌≤◌, length}
use Rattle.std.specs.Prelude.{map, vec_len}
use Rattle.std.specs.Vec.{vec_capacity}
use Rattle.split_driver.specs.declared.jobs.Job.{Job}
use Rattle.split_driver.proofs.ending.seats_of.Given as goal

abbrev pub invariant-loop-one : goal.invariant-loop-one
invariant-loop-one l =
    (l.seats.items ≡ map (λ (p : Job). p.seat) l.yielded)
    × (vec_len l.fn.played ≤ vec_capacity l.seats)
    × (vec_len l.seats ≡ length l.yielded)
