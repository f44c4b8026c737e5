use Rattle.std.proofs.Common.{◌<◌, List, length, take, sym, subst, arith}
use Rattle.std.proofs.lemmas.List.{take_more}
use Rattle.trace_rules.specs.declared.trace.Operation.{Operation}
use Rattle.outer_reads.specs.Sources.{HasLast}
use Rattle.outer_reads.proofs.values.last_values.Goals as goal

pub loop-operation-preserved : goal.loop-operation-preserved
loop-operation-preserved c =
    let less : c.loop-operation.operation-index < length c.args.operations.now = omega (arith, c.loop-operation-test.true) in
    subst (λ (part : List Operation). HasLast part c.pass.new.self.values) (sym (take_more c.args.operations.now c.loop-operation.operation-index _ less)) (c.in_ok-pass.ensures (take c.loop-operation.operation-index c.args.operations.now) c.loop-operation.invariant)
