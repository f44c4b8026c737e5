use Rattle.std.proofs.Common.{◌≡◌}
use Rattle.std.proofs.lemmas.Result.{IfOk-weaker}
use Rattle.trace_items.specs.Items.{history_of}
use Rattle.stamped_history.specs.Order.{points_of, stamps_by}
use Rattle.stamped_history.specs.Told.{IsHistory, telling_by}
use Rattle.stamped_history.proofs.ToldLemmas.{is_history}
use Rattle.stamped_history.proofs.items.history_of.Goals as goal

pub returns : goal.returns
returns c =
    let told = c.in_ok-told.told in
    let facts = c.in_ok-told.ensures in
    IfOk-weaker c.items_of.result
    (λ items. items.items ≡ history_of (stamps_by told.count told.ranks.items) (telling_by told.seats.items told.keys.items c.args.recording.now.names) c.args.trace.now (points_of told.count told.nodes.items))
    (λ items. IsHistory c.args.level c.args.trace.now c.args.numbers.now c.args.recording.now.names items.items)
    (λ items is. is_history c.args.level c.args.trace.now c.args.numbers.now c.args.recording.now.names told.count told.nodes.items told.ranks.items told.seats.items told.keys.items items.items
    facts.count facts.placed facts.nodes is)
    c.items_of.ensures
