use Rattle.command_semantics.proofs.AnyOrder.{orders_are_planned}
use Rattle.command_semantics.proofs.planned.orders_are_planned.Goals as goal

pub returns : goal.returns
returns c = orders_are_planned
