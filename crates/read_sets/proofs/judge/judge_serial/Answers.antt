use Rattle.std.proofs.Common.{ap, subst, Ok}
use Rattle.read_sets.specs.declared.judge.SerialVerdict.{SerialVerdict}
use Rattle.read_sets.specs.Crossings.{IsJudged}
use Rattle.read_sets.proofs.CrossingLemmas.{judged_serial}
use Rattle.read_sets.proofs.judge.judge_serial.Goals as goal

pub returns-clause-serial : goal.returns-clause-serial
returns-clause-serial c = λ is. subst (λ (v : SerialVerdict). IsJudged c.args.items.now v) is c.judged.ensures

pub returns-clause-complete : goal.returns-clause-complete
returns-clause-complete c = λ serial. ap Ok (judged_serial c.args.items.now c.judged.result c.judged.ensures serial)
