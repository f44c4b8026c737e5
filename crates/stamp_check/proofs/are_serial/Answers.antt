use Rattle.std.proofs.Common.{rules}
use Rattle.stamp_check.proofs.StampLemmas.{numbers_serialise}
use Rattle.stamp_check.proofs.are_serial.Goals as goal

pub returns-then-nexts_rise : goal.returns-then-nexts_rise
returns-then-nexts_rise c = λ go trace known. numbers_serialise trace c.args.readings.now c.args.order.now c.args.numbers.now known (c.nexts_rise.ensures (search rules)) (c.reads_rise.ensures go)
