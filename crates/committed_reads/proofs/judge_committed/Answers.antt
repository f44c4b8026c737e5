use Rattle.std.proofs.Common.{subst}
use Rattle.outer_reads.specs.declared.sources.Sources.{Sources}
use Rattle.outer_reads.specs.Sources.{AreSources, IsWrong, trace_of}
use Rattle.committed_reads.proofs.ReadLemmas.{wrong_refuses}
use Rattle.committed_reads.proofs.judge_committed.Goals as goal

pub returns-in-WrongRead : goal.returns-in-WrongRead
returns-in-WrongRead c =
    let wrong : IsWrong (trace_of c.args.transactions.now c.args.operations.now) c.in-WrongRead.place = subst (λ (sources : Sources). AreSources (trace_of c.args.transactions.now c.args.operations.now) sources) c.in-WrongRead.is c.in_ok-place.ensures in
    (wrong, wrong_refuses (trace_of c.args.transactions.now c.args.operations.now) c.in-WrongRead.place wrong)
