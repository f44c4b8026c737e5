use Rattle.std.specs.Prelude.{◌≡◌}
use Rattle.stage_queues.proofs.batch_queue.BatchQueue.wake_reader.Given as goal

abbrev pub invariant-loop-reader : goal.invariant-loop-reader
invariant-loop-reader l = (l.owed.node ≡ l.self.node) × (l.owed.asked ≡ l.reader-index)
