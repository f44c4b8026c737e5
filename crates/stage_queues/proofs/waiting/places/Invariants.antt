use Rattle.std.specs.Prelude.{◌≡◌, vec_len}
use Rattle.stage_queues.specs.Spots.{StandIn}
use Rattle.stage_queues.proofs.waiting.places.Given as goal

abbrev pub invariant-loop-number : goal.invariant-loop-number
invariant-loop-number l = (vec_len l.places ≡ l.number) × StandIn l.row l.places.items
