use Rattle.std.proofs.lemmas.Option.{IfSome_then}
use Rattle.outer_reads.specs.Sources.{trace_of}
use Rattle.trace_judge.proofs.JudgeLemmas.{shared_tried}
use Rattle.trace_judge.proofs.try_order.Goals as goal

pub returns-in-Cycle : goal.returns-in-Cycle
returns-in-Cycle c = λ operations known. IfSome_then c.tried_key.result c.tried_key.ensures (λ key shared. shared_tried (trace_of c.args.transactions.now operations) c.args.readings.now c.args.order.now key known shared)
