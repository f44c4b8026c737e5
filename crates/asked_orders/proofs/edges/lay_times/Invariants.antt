use Rattle.trace_rules.specs.Wants.{moments_of, real_time}
use Rattle.rising_numbers.specs.Rises.{AreWithin}
use Rattle.asked_orders.specs.Laid.{StillJoined}
use Rattle.asked_orders.proofs.edges.lay_times.Given as goal

abbrev pub invariant-loop-txn : goal.invariant-loop-txn
invariant-loop-txn l = (AreWithin l.nodes.all l.initial.edges.items → AreWithin l.nodes.all l.edges.items)
    × StillJoined l.level (real_time l.level l.times) (moments_of l.level l.times) l.transactions l.nodes.starts l.nodes.points l.moments l.initial.edges.items l.edges.items

abbrev pub invariant-loop-txn-2 : goal.invariant-loop-txn-2
invariant-loop-txn-2 l = (AreWithin l.nodes.all l.initial.edges.items → AreWithin l.nodes.all l.edges.items)
    × StillJoined l.level (real_time l.level l.times) (moments_of l.level l.times) l.transactions l.nodes.starts l.nodes.points l.moments l.initial.edges.items l.edges.items

abbrev pub invariant-loop-place : goal.invariant-loop-place
invariant-loop-place l = (AreWithin l.nodes.all l.initial.edges.items → AreWithin l.nodes.all l.edges.items)
    × StillJoined l.level (real_time l.level l.times) (moments_of l.level l.times) l.transactions l.nodes.starts l.nodes.points l.moments l.initial.edges.items l.edges.items
