use Rattle.std.proofs.Common.{subst}
use Rattle.version_ranks.specs.Ranks.{asked_with}
use Rattle.outer_reads.specs.declared.sources.Sources.{Sources}
use Rattle.outer_reads.specs.Sources.{AreSources, IsWrong, trace_of}
use Rattle.trace_judge.proofs.JudgeLemmas.{wrong_refuses}
use Rattle.trace_judge.proofs.judge_told.Goals as goal

pub returns-in-WrongRead : goal.returns-in-WrongRead
returns-in-WrongRead c =
    let wrong : IsWrong (trace_of c.args.transactions.now c.args.operations.now) c.in-WrongRead.place = subst (λ (sources : Sources). AreSources (trace_of c.args.transactions.now c.args.operations.now) sources) c.in-WrongRead.is c.in_ok-place.ensures in
    (wrong, wrong_refuses c.args.level (asked_with c.args.wanted c.args.level c.args.times.now c.args.ranks.now (trace_of c.args.transactions.now c.args.operations.now)) (trace_of c.args.transactions.now c.args.operations.now) c.in-WrongRead.place wrong)
