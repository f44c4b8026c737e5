use Rattle.std.proofs.Common.{◌≡◌, ◌≤◌, ◌+◌, length}
use Rattle.std.specs.Prelude.{All, vec_len}
use Rattle.std.specs.List.{AllZip}
use Rattle.std.specs.Vec.{vec_capacity}
use Rattle.split_stores.specs.Logs.{IsNew}
use Rattle.split_driver.specs.Actors.{IsJobOf}
use Rattle.split_driver.proofs.jobs.jobs_of.Given as goal

abbrev pub invariant-loop-actor : goal.invariant-loop-actor
invariant-loop-actor l =
    All (IsNew l.split.id) l.seats.items
    × (vec_len l.seats + length l.yielded ≡ vec_len l.fn.actors)
    × (vec_len l.fn.actors ≤ vec_capacity l.jobs)
    × (vec_len l.jobs ≡ length l.yielded)
    × AllZip (IsJobOf l.split.id) l.yielded l.jobs.items
