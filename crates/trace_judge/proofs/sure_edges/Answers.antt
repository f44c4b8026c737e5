use Rattle.std.proofs.Common.{◌≡◌, List, ◌++◌, sym, subst}
use Rattle.rising_numbers.specs.declared.Edge.{Edge}
use Rattle.version_orders.specs.Orders.{AreSure, Task, task_of}
use Rattle.version_orders.proofs.OrderLemmas.{laid_sure}
use Rattle.trace_judge.proofs.JudgeLemmas.{sure_laid, sure_with}
use Rattle.trace_judge.proofs.sure_edges.Goals as goal

pub returns : goal.returns
returns c =
    let task : Task = task_of c.args.level c.args.wanted c.args.transactions.now c.args.times.now c.args.ranks.now c.args.plan.now.moments.items in
    let value = c.deref-2.ensures.value in
    let items = c.in_ok-extend_from_slice.ensures.items in
    let same : c.extend_from_slice.new.self.items ≡ c.in_ok-edges.edges.items ++ c.in_ok-asked.asked.items = cc in
    let first = laid_sure task c.args.readings.now c.args.order.now c.args.nodes c.in_ok-edges.edges.items c.requires.room c.in_ok-edges.ensures in
    let second = sure_with task c.args.readings.now c.args.order.now c.args.nodes c.in_ok-edges.edges.items c.in_ok-asked.asked.items first c.in_ok-asked.ensures.within c.in_ok-asked.ensures.joined in
    let third = subst (λ (edges : List Edge). AreSure task c.args.readings.now c.args.order.now c.args.nodes edges) (sym same) second in
    sure_laid task c.args.readings.now c.args.order.now c.args.nodes c.extend_from_slice.new.self.items c.lay_ranks.new.edges.items third c.in_ok-lay_ranks.ensures.within
    (c.in_ok-lay_ranks.ensures.joined c.args.level c.args.wanted c.args.times.now c.args.plan.now.moments.items)
