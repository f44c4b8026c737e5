use Rattle.std.proofs.Common.{arith}
use Rattle.isolation_rules.proofs.WalkLemmas.{pair_order, passes_none}
use Rattle.isolation_rules.proofs.walk.second_of_pair.Goals as goal

pub loop-second-init : goal.loop-second-init
loop-second-init c = λ q less broken.
    let order = (pair_order c.args.rule c.args.items.now c.args.first q c.requires.pairs broken).0 in
    omega (arith, less, order)

pub returns-clause-second : goal.returns-clause-second
returns-clause-second c = passes_none c.args.rule c.args.items.now c.args.first c.requires.pairs (λ j broken.
    let order = (pair_order c.args.rule c.args.items.now c.args.first j c.requires.pairs broken).1 in
    c.loop-second.invariant j (omega (arith, order, c.loop-second-test.false)) broken)
