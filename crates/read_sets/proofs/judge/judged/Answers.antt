use Rattle.std.proofs.Common.{arith}
use Rattle.read_sets.proofs.CrossingLemmas.{all_serial, least_counted}
use Rattle.read_sets.proofs.judge.judged.Goals as goal

pub returns-in-None : goal.returns-in-None
returns-in-None c = all_serial c.args.items.now c.in-None.ensures.pair

pub returns-in-Some : goal.returns-in-Some
returns-in-Some c = (omega arith, omega arith, least_counted c.args.items.now c.in-Some.pair.first c.in-Some.pair.second c.in-Some.ensures.pair)
