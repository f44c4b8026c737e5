use Rattle.std.specs.List.Sorted.{IsPermutation}
use Rattle.version_orders.specs.Orders.{AreSure, task_of}
use Rattle.trace_judge.proofs.judge_known.Given as goal

abbrev pub invariant-loop-round : goal.invariant-loop-round
invariant-loop-round l = record {
  permutation : IsPermutation l.fn.order.items l.order.items;
  sure : AreSure (task_of l.level l.wanted l.transactions l.times l.ranks l.plan.moments.items) l.readings l.order.items l.nodes l.edges.items;
}
