use Rattle.isolation_rules.proofs.ReadLemmas.{own_wrong}
use Rattle.isolation_rules.proofs.read.wrong_answer.Goals as goal

pub returns-in-Some : goal.returns-in-Some
returns-in-Some g c = λ h stamped less tells.
    let own = c.in-Some.ensures h c.args.first tells in
    own_wrong h c.args.first c.args.start c.args.key c.args.answer c.in-Some.own c.wrong_own.result own (c.wrong_own.ensures h stamped less tells own.1)
