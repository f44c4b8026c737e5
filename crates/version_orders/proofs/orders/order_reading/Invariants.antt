use Rattle.version_orders.specs.Orders.{AreSure, Task}
use Rattle.version_orders.proofs.orders.order_reading.Given as goal

abbrev pub invariant-loop-look : goal.invariant-loop-look
invariant-loop-look l = (task : Task) → AreSure task l.readings l.order l.nodes l.fn.edges.items → AreSure task l.readings l.order l.nodes l.edges.items
