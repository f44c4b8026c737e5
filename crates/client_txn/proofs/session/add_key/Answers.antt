use Rattle.client_txn.proofs.KeyLemmas.{pushed, refused}
use Rattle.client_txn.proofs.session.add_key.Goals as goal

pub returns-in-Ok-clause-left : goal.returns-in-Ok-clause-left
returns-in-Ok-clause-left c = (pushed c.args.keys.now c.push.new.self c.args.key c.in-Ok.ensures.there c.in-Ok.ensures.added c.in-Ok.ensures.room).1

pub returns-in-Err-clause-answer : goal.returns-in-Err-clause-answer
returns-in-Err-clause-answer c = refused c.args.keys.now c.args.key c.in-Err.ensures.refused.1 c.in-Err.ensures.refused.2
