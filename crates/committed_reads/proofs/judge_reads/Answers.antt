use Rattle.std.proofs.Common.{◌≡◌, List, length, refl, subst}
use Rattle.rising_numbers.specs.declared.Edge.{Edge}
use Rattle.rising_numbers.specs.declared.Order.{Order}
use Rattle.rising_numbers.specs.Rises.{IsCycle, IsOrder, Rises}
use Rattle.outer_reads.specs.Sources.{trace_of}
use Rattle.committed_reads.proofs.ReadLemmas.{numbers_order, round_refuses}
use Rattle.committed_reads.proofs.judge_reads.Goals as goal

pub returns-in-Rising : goal.returns-in-Rising
returns-in-Rising c = λ operations writings known.
    let value = c.deref.ensures.value in
    let same : c.deref.result.now ≡ c.in_ok-edges.edges.items = cc in
    let order = subst (λ (order : Order). IsOrder (length c.args.transactions.now) c.deref.result.now order) c.in-Rising.is c.in_ok-numbers.ensures in
    numbers_order (trace_of c.args.transactions.now operations) c.args.readings.now writings (length c.args.transactions.now) c.in_ok-edges.edges.items known c.in_ok-edges.ensures c.in-Rising.numbers.items refl
    (subst (λ (edges : List Edge). Rises c.in-Rising.numbers.items edges) same order.1)

pub returns : goal.returns
returns c = λ operations writings known.
    let value = c.deref.ensures.value in
    let same : c.deref.result.now ≡ c.in_ok-edges.edges.items = cc in
    round_refuses (trace_of c.args.transactions.now operations) c.args.readings.now writings (length c.args.transactions.now) c.in_ok-edges.edges.items known c.in_ok-edges.ensures c.in-Cycle.places.items
    (subst (λ (edges : List Edge). IsCycle edges c.in-Cycle.places.items) same
    (subst (λ (order : Order). IsOrder (length c.args.transactions.now) c.deref.result.now order) c.in-Cycle.is c.in_ok-numbers.ensures))
