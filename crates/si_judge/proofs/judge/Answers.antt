use Rattle.std.proofs.Common.{ap, Ok}
use Rattle.si_judge.proofs.VerdictLemmas.{judged_isolated}
use Rattle.si_judge.proofs.judge.Goals as goal

pub returns-clause-complete : goal.returns-clause-complete
returns-clause-complete c = λ isolated. ap Ok (judged_isolated c.args.items.now c.judged.result c.judged.ensures isolated)
