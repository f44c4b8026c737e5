use Rattle.std.proofs.Common.{◌≡◌, replicate, rules, arith}
use Rattle.std.proofs.lemmas.Grind.{common_steps}
use Rattle.rising_numbers.proofs.RoundLemmas.{starts}
use Rattle.rising_numbers.proofs.walk.Walk.new.Goals as goal

pub returns-clause-walked : goal.returns-clause-walked
returns-clause-walked c =
    let zeros : c.in_ok-numbers.numbers.items ≡ replicate c.args.nodes 0 = first_of (search rules, grind (arith, common_steps)) in
    starts c.args.edges.now c.args.chains.now (record { ahead = c.loop-node.ahead; numbers = c.in_ok-numbers.numbers; path = c.new.result; sequence = c.new-2.result }) c.args.nodes
    c.requires.chained c.requires.within c.loop-node.invariant.many (λ v low. c.loop-node.invariant.high v (omega (arith, low, c.loop-node-test.false))) zeros c.new.ensures.items c.new-2.ensures.items
