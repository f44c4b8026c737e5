use Rattle.std.proofs.Common.{◌≡◌, length, take}
use Rattle.stamped_history.specs.Groups.{AreGroups}
use Rattle.stamped_history.proofs.groups.groups_of.Given as goal

abbrev pub invariant-loop-operation : goal.invariant-loop-operation
invariant-loop-operation l = record {
  len : length l.groups.items ≡ l.count;
  groups : AreGroups l.groups.items (take l.operation-index l.operations);
}
