use Rattle.omid_check_top.proofs.CheckLemmas.{told_of}
use Rattle.omid_check_top.proofs.check.check_bytes.Goals as goal

pub returns-in-Ok-clause-told : goal.returns-in-Ok-clause-told
returns-in-Ok-clause-told g c = λ told. told_of c.args.question c.args.bytes.now c.in-Ok.made.code c.show.result _ _ c.in-Ok.made.text.items c.in-Ok.ensures.right c.show.ensures.all told
