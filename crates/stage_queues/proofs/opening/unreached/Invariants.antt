use Rattle.std.specs.Prelude.{◌≡◌, []}
use Rattle.stage_queues.specs.Opening.{session_passes}
use Rattle.stage_queues.proofs.opening.unreached.Given as goal

abbrev pub invariant-loop-sender : goal.invariant-loop-sender
invariant-loop-sender l = l.sessions.items ≡ session_passes l._sender []
