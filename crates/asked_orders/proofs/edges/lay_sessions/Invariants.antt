use Rattle.trace_rules.specs.Wants.{sessions}
use Rattle.rising_numbers.specs.Rises.{AreWithin}
use Rattle.asked_orders.specs.Joins.{no_moments}
use Rattle.asked_orders.specs.Laid.{StillJoined}
use Rattle.asked_orders.proofs.edges.lay_sessions.Given as goal

abbrev pub invariant-loop-next : goal.invariant-loop-next
invariant-loop-next l = (AreWithin l.nodes.all l.initial.edges.items → AreWithin l.nodes.all l.edges.items)
    × StillJoined l.level sessions no_moments l.transactions l.nodes.starts l.nodes.points l.plan.moments.items l.initial.edges.items l.edges.items
