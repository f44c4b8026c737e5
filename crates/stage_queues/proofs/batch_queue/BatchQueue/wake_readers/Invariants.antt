use Rattle.std.specs.Prelude.{◌≡◌}
use Rattle.stage_queues.specs.declared.spot.Row.TheVariants.{Workers}
use Rattle.stage_queues.specs.Spots.{whom}
use Rattle.stage_queues.proofs.batch_queue.BatchQueue.wake_readers.Given as goal

abbrev pub invariant-loop-reader : goal.invariant-loop-reader
invariant-loop-reader l = l.rungs.of ≡ whom (Workers l.self.node) 0 l.reader-index
