use Rattle.std.proofs.Common.{◌≡◌, List, subst}
use Rattle.std.specs.List.Sorted.{IsPermutation}
use Rattle.std.proofs.lemmas.List.Sorted.{IsPermutation-trans}
use Rattle.std.proofs.lemmas.Result.{IfOk-weaker}
use Rattle.trace_rules.specs.declared.trace.Operation.{Operation}
use Rattle.outer_reads.specs.declared.writings.Writing.{Writing}
use Rattle.outer_reads.specs.Sources.{AreKnown, trace_of}
use Rattle.version_ranks.specs.Ranks.{asked_with}
use Rattle.version_orders.specs.Orders.{AreSure, Task, task_of}
use Rattle.trace_judge.specs.declared.Verdict.{Verdict}
use Rattle.trace_judge.specs.Verdicts.{IsVerdict, Refuses}
use Rattle.trace_judge.proofs.JudgeLemmas.{if_some_at, known_still}
use Rattle.trace_judge.proofs.judge_known.Goals as goal

pub returns-in-Some : goal.returns-in-Some
returns-in-Some c = λ operations known.
    if_some_at c.in_ok-cycle.field-0 ((task : Task) → AreSure task c.args.readings.now c.loop-round.order.items c.nodes_of-nodes.result c.loop-round.edges.items → Refuses task c.args.readings.now c.loop-round.order.items c.nodes_of-nodes.result) c.in-Some.cycle c.in-Some.is c.in_ok-cycle.ensures.refused
    (task_of c.args.level c.args.wanted c.args.transactions.now c.args.times.now c.args.ranks.now c.in_ok-plan.plan.moments.items) c.loop-round.invariant.sure operations c.nodes_of-nodes.ensures.starts
    (known_still (trace_of c.args.transactions.now operations) c.args.readings.now c.args.order.now.items c.loop-round.order.items c.loop-round.invariant.permutation known)

pub loop-round-preserved : goal.loop-round-preserved
loop-round-preserved c = record {
  permutation = IsPermutation-trans c.args.order.now.items c.loop-round.order.items c.sort_round.new.order.items c.loop-round.invariant.permutation c.in_ok-cycle.ensures.permutation;
  sure = c.in_ok-cycle.ensures.sure (task_of c.args.level c.args.wanted c.args.transactions.now c.args.times.now c.args.ranks.now c.in_ok-plan.plan.moments.items) c.loop-round.invariant.sure;
}

pub returns : goal.returns
returns c =
    let value = c.deref-2.ensures.value in
    let same : c.loop-round.order.items ≡ c.deref-2.result.now = cc in
    let still : IsPermutation c.args.order.now.items c.deref-2.result.now = subst (λ (xs : List Writing). IsPermutation c.args.order.now.items xs) same c.loop-round.invariant.permutation in
    IfOk-weaker c.try_order.result
    (λ (verdict : Verdict). (operations : List Operation) → AreKnown (trace_of c.args.transactions.now operations) c.args.readings.now c.deref-2.result.now → IsVerdict c.args.level (asked_with c.args.wanted c.args.level c.args.times.now c.args.ranks.now (trace_of c.args.transactions.now operations)) (trace_of c.args.transactions.now operations) verdict)
    (λ (verdict : Verdict). (operations : List Operation) → AreKnown (trace_of c.args.transactions.now operations) c.args.readings.now c.args.order.now.items → IsVerdict c.args.level (asked_with c.args.wanted c.args.level c.args.times.now c.args.ranks.now (trace_of c.args.transactions.now operations)) (trace_of c.args.transactions.now operations) verdict)
    (λ verdict said operations known. said operations (known_still (trace_of c.args.transactions.now operations) c.args.readings.now c.args.order.now.items c.deref-2.result.now still known))
    c.try_order.ensures
