use Rattle.std.proofs.Common.{rules}
use Rattle.outer_reads.specs.Sources.{trace_of}
use Rattle.stamp_check.proofs.StampLemmas.{numbers_stamp}
use Rattle.stamp_check.proofs.are_stamps.Goals as goal

pub returns : goal.returns
returns c = λ go operations known. numbers_stamp (trace_of c.args.transactions.now operations) c.args.readings.now c.args.order.now c.args.numbers.now known
    (c.own_rise.ensures (search rules) operations) (c.nexts_rise.ensures (search rules)) (c.reads_rise.ensures go)
