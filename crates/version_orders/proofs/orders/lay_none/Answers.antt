use Rattle.std.proofs.lemmas.Result.{on_ok_weaker}
use Rattle.version_orders.specs.Orders.{OfNone}
use Rattle.version_orders.proofs.OrderLemmas.{may_follow}
use Rattle.version_orders.proofs.orders.lay_none.Goals as goal

pub returns : goal.returns
returns c = on_ok_weaker c.lay.result (λ may task readings order are sure.
    may_follow task readings order c.args.nodes c.args.edges.now.items c.lay.new.edges.items (record { from = c.args.unread.reader; to = c.args.unread.writer.commit }) may (OfNone c.args.unread.reader c.args.unread.writer are) sure) c.lay.ensures
