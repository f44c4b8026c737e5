use Rattle.std.specs.Prelude.{◌≡◌}
use Rattle.stage_queues.specs.declared.spot.Row.TheVariants.{Actors}
use Rattle.stage_queues.specs.Spots.{whom, first_session}
use Rattle.stage_queues.proofs.queues.Queues.wake_sessions.Given as goal

abbrev pub invariant-loop-session : goal.invariant-loop-session
invariant-loop-session l = l.rungs.of ≡ whom Actors first_session l.session
