use Rattle.std.proofs.Common.{◌≡◌, get_or, arith}
use Rattle.std.proofs.lemmas.Grind.{common_steps}
use Rattle.rising_numbers.proofs.TurnLemmas.{numbers_on}
use Rattle.rising_numbers.proofs.walk.Walk.turn.Goals as goal

pub returns-in_ok-number-clause-walked : goal.returns-in_ok-number-clause-walked
returns-in_ok-number-clause-walked c =
    let at : get_or c.args.self.now.ahead.items c.last-node.result 0 ≡ 1 = grind (arith, common_steps) in
    numbers_on c.args.edges.now c.args.chains.now.heads.items c.args.self.now c.last-node.result c.requires.walked c.last-node.ensures c.number.new.self at c.in_ok-number.ensures
