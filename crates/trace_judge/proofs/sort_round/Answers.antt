use Rattle.std.proofs.Common.{◌≡◌, List, sym, subst}
use Rattle.rising_numbers.specs.declared.Edge.{Edge}
use Rattle.rising_numbers.specs.declared.Order.{Order}
use Rattle.rising_numbers.specs.Rises.{IsCycle, IsOrder}
use Rattle.outer_reads.specs.declared.writings.Writing.{Writing}
use Rattle.version_orders.specs.Orders.{AreSure}
use Rattle.trace_judge.proofs.JudgeLemmas.{cycle_refuses, sure_still}
use Rattle.trace_judge.proofs.sort_round.Goals as goal

pub returns-in_ok-cycle-in-Cycle-clause-refused : goal.returns-in_ok-cycle-in-Cycle-clause-refused
returns-in_ok-cycle-in-Cycle-clause-refused c = λ task sure.
    let value = c.deref.ensures.value in
    let same : c.deref.result.now ≡ c.args.edges.now.items = cc in
    cycle_refuses task c.args.readings.now c.args.order.now.items c.args.nodes c.args.edges.now.items c.in-Cycle.places.items sure
    (subst (λ (edges : List Edge). IsCycle edges c.in-Cycle.places.items) same
    (subst (λ (order : Order). IsOrder c.args.nodes.all c.deref.result.now order) c.in-Cycle.is c.in_ok-places.ensures))

pub returns-in_ok-add_orders-in-Rising-clause-sure : goal.returns-in_ok-add_orders-in-Rising-clause-sure
returns-in_ok-add_orders-in-Rising-clause-sure c = λ task sure.
    let value = c.deref-in-Rising-4.ensures.value in
    let same : c.deref-in-Rising-4.result.now ≡ c.sort_by.new.order.items = cc in
    let still = sure_still task c.args.readings.now c.args.order.now.items c.sort_by.new.order.items c.args.nodes c.args.edges.now.items c.sort_by.ensures sure in
    subst (λ (xs : List Writing). AreSure task c.args.readings.now xs c.args.nodes c.add_orders.new.edges.items) same
    (c.in_ok-add_orders-in-Rising.ensures task
    (subst (λ (xs : List Writing). AreSure task c.args.readings.now xs c.args.nodes c.args.edges.now.items) (sym same) still))
