use Rattle.std.proofs.Common.{◌<◌, List, length, take, sym, subst, ◌∙◌, rules}
use Rattle.std.proofs.lemmas.List.{take_more}
use Rattle.trace_rules.specs.declared.trace.Operation.{Operation}
use Rattle.stamped_history.specs.Groups.{AreGroups}
use Rattle.stamped_history.proofs.groups.groups_of.Goals as goal

pub loop-operation-preserved : goal.loop-operation-preserved
loop-operation-preserved c =
    let less : c.loop-operation.operation-index < length c.args.operations.now = search rules in
    record {
      len = c.in_ok-add.ensures.len ∙ c.loop-operation.invariant.len;
      groups = subst (λ (part : List Operation). AreGroups c.add.new.groups.items part) (sym (take_more c.args.operations.now c.loop-operation.operation-index _ less))
          (c.in_ok-add.ensures.groups (take c.loop-operation.operation-index c.args.operations.now) c.loop-operation.invariant.groups);
    }
