use Rattle.std.proofs.Common.{rules, ◌≡◌, ◌<◌, ◌++◌, ◌∷◌, [], List, Some, length, map, slice_get, slice_index, sym, ap, ◌∙◌, append_assoc}
use Rattle.std.proofs.lemmas.Option.{slice_get-get_or}
use Rattle.std.proofs.lemmas.Result.{on_ok_weaker}
use Rattle.history_book.specs.declared.item.Item.{Item}
use Rattle.history_book.specs.declared.item.Item.TheVariants as item
use Rattle.trace_rules.specs.declared.trace.Operation.{Operation}
use Rattle.trace_rules.specs.Stamping.{Point}
use Rattle.trace_items.specs.Items.{item_of, items_at, operations_of}
use Rattle.stamped_history.specs.Order.{stamps_by}
use Rattle.stamped_history.specs.Told.{telling_by}
use Rattle.stamped_history.proofs.OrderLemmas.{start_point}
use Rattle.stamped_history.proofs.items.push_node.Goals as goal

pub returns-in_ok-push_begin : goal.returns-in_ok-push_begin
returns-in_ok-push_begin c =
    let told = c.args.told.now in
    let st = stamps_by told.count told.ranks.items in
    let tell = telling_by told.seats.items told.keys.items c.args.recording.now.names in
    let ask : Item = item.AskBegin (slice_index told.seats.items c.args.node) 0 in
    let begin : Item = item.Begin (slice_index told.seats.items c.args.node) (slice_index told.ranks.items c.args.node) in
    let less : c.args.node < length c.args.groups.now.items = search rules in
    let there : slice_get c.args.groups.now.items c.args.node ≡ Some c.index.result.now = slice_get-get_or c.args.groups.now.items c.args.node c.index.result.now less ∙ ap Some (sym c.index.ensures) in
    let own : c.deref.result.now ≡ operations_of c.args.node c.args.trace.now.operations = c.deref.ensures.value ∙ c.requires.groups c.args.node c.index.result.now there in
    on_ok_weaker c.push_operations.result
    (λ made.
    made
    ∙ ap (λ (l : List Item). l ++ map (item_of st tell) c.deref.result.now) c.in_ok-push_begin.ensures
    ∙ append_assoc c.args.items.now.items (ask ∷ begin ∷ []) (map (item_of st tell) c.deref.result.now)
    ∙ ap (λ (os : List Operation). c.args.items.now.items ++ ask ∷ begin ∷ map (item_of st tell) os) own
    ∙ ap (λ (p : Point). c.args.items.now.items ++ items_at st tell c.args.trace.now p) (sym (start_point told.count c.args.node (search rules))))
    c.push_operations.ensures
