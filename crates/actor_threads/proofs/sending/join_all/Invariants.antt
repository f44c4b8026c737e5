use Rattle.std.proofs.Common.{◌≤◌}
use Rattle.std.specs.Prelude.{vec_len}
use Rattle.std.specs.List.{AllZip}
use Rattle.std.specs.Vec.{vec_capacity}
use Rattle.actor_threads.specs.Sending.{ComesBack}
use Rattle.actor_threads.proofs.sending.join_all.Given as goal

abbrev pub invariant-loop-one : goal.invariant-loop-one
invariant-loop-one g l = AllZip ComesBack l.yielded l.back.items × (vec_len l.fn.sent ≤ vec_capacity l.back)
