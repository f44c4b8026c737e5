use Rattle.std.proofs.Common.{◌≡◌, ◌≤◌, length}
use Rattle.std.specs.Prelude.{vec_len}
use Rattle.std.specs.List.{AllZip}
use Rattle.std.specs.Vec.{vec_capacity}
use Rattle.split_driver.specs.Actors.{GivesBack}
use Rattle.split_driver.proofs.threads.join_all.Given as goal

abbrev pub invariant-loop-thread : goal.invariant-loop-thread
invariant-loop-thread g l = AllZip GivesBack l.yielded l.played.items × (vec_len l.played ≡ length l.yielded) × (vec_len l.fn.threads ≤ vec_capacity l.played)
