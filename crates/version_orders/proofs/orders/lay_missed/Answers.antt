use Rattle.std.proofs.Common.{◌≡◌, List, subst, rules}
use Rattle.std.proofs.lemmas.Result.{on_ok_weaker}
use Rattle.rising_numbers.specs.declared.Edge.{Edge}
use Rattle.version_orders.specs.Orders.{Lead, OfMissed}
use Rattle.version_orders.proofs.OrderLemmas.{may_follow}
use Rattle.version_orders.proofs.orders.lay_missed.Goals as goal

pub returns-then-branch : goal.returns-then-branch
returns-then-branch c =
    let value = c.deref.ensures.value in
    let same : c.deref.result.now ≡ c.args.edges.now.items = cc in
    let lead : Lead c.args.edges.now.items c.args.other.source.commit c.args.other.writer.start = subst (λ (edges : List Edge). Lead edges c.args.other.source.commit c.args.other.writer.start) same (c.in_ok-lead.ensures (search rules)) in
    on_ok_weaker c.lay.result (λ may task readings order are sure.
    may_follow task readings order c.args.nodes c.args.edges.now.items c.lay.new.edges.items (record { from = c.args.other.reader; to = c.args.other.writer.commit }) may (OfMissed c.args.other.reader c.args.other.source c.args.other.writer are lead) sure) c.lay.ensures
