use Rattle.std.proofs.Common.{◌≡◌, [], length}
use Rattle.stamped_history.specs.Groups.{AreGroups}
use Rattle.stamped_history.proofs.groups.no_groups.Given as goal

abbrev pub invariant-loop-txn : goal.invariant-loop-txn
invariant-loop-txn l = record {
  len : length l.groups.items ≡ l.txn;
  groups : AreGroups l.groups.items [];
}
