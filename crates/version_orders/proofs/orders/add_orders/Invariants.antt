use Rattle.version_orders.specs.Orders.{AreSure, Task}
use Rattle.version_orders.proofs.orders.add_orders.Given as goal

abbrev pub invariant-loop-place : goal.invariant-loop-place
invariant-loop-place l = (task : Task) → AreSure task l.readings l.order l.nodes l.fn.edges.items → AreSure task l.readings l.order l.nodes l.edges.items

abbrev pub invariant-loop-i : goal.invariant-loop-i
invariant-loop-i l = (task : Task) → AreSure task l.readings l.order l.nodes l.fn.edges.items → AreSure task l.readings l.order l.nodes l.edges.items
