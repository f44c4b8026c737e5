use Rattle.std.proofs.Common.{◌≡◌, ◌+◌, ◌<◌, ◌≤◌, ◌++◌, min, length, slice_index_or, take, ◌∙◌, arith}
use Rattle.history_book.specs.declared.item.Item.TheVariants.{Crash}
use Rattle.machine.specs.State.{Client}
use Rattle.machine.specs.Events.Crash.{crashed_client, crashed_items, all_crashed_items}
use Rattle.node_events.proofs.Losses.{not_yet_crashed, crashed_next, all_crashed, told_next, all_told, none_crashed, none_told, waits_next, behind}
use Rattle.node_events.proofs.crashing.lose_all.Goals as goal

pub loop-i-init : goal.loop-i-init
loop-i-init c = record {
  room = grind arith;
  spare = grind arith;
  clients = none_crashed c.args.clients.now;
  items = rw (none_told c.args.node c.args.instance.now.term c.args.clients.now) (grind arith);
}

pub lose-requires-clause-waits : goal.lose-requires-clause-waits
lose-requires-clause-waits c =
    let r : Client = c.index-clients-i.result in
    let at : r ≡ slice_index_or c.args.clients.now c.loop-i.i r = (rw c.loop-i.invariant.clients at c.index-clients-i.is) ∙ not_yet_crashed c.args.instance.now.requests c.args.clients.now c.loop-i.i r in
    let is = rw c.requests-requests.ensures.value at c.index-requests-i.is in
    let short : c.loop-i.i < length c.args.instance.now.requests = grind arith in
    let long : c.loop-i.i < length c.args.clients.now = grind arith in
    rw (← c.index-clients-i.is) (waits_next c.args.instance.now c.args.clients.now c.loop-i.i c.index-requests-i.result r short long is at c.requires.waits)

pub loop-i-preserved : goal.loop-i-preserved
loop-i-preserved c =
    let r : Client = c.index-clients-i.result in
    let at : r ≡ slice_index_or c.args.clients.now c.loop-i.i r = (rw c.loop-i.invariant.clients at c.index-clients-i.is) ∙ not_yet_crashed c.args.instance.now.requests c.args.clients.now c.loop-i.i r in
    let is = rw c.requests-requests.ensures.value at c.index-requests-i.is in
    let short : c.loop-i.i < length c.args.instance.now.requests = grind arith in
    let long : c.loop-i.i < length c.args.clients.now = grind arith in
    let made : c.lose.new.client ≡ crashed_client c.index-requests-i.result r = rw (← c.index-clients-i.is) at c.lose.ensures.client in
    let told : c.lose.new.book.items ≡ c.loop-i.book.items ++ crashed_items c.args.node c.args.instance.now.term c.index-requests-i.result r = rw c.term-term.ensures at (rw (← c.index-clients-i.is) at c.lose.ensures.items) in
    let next = told_next c.args.node c.args.instance.now.term c.args.instance.now.requests c.args.clients.now c.loop-i.i c.index-requests-i.result r short long is at in
    record {
      room = grind arith;
      spare = grind arith;
      clients = rw made (rw c.loop-i.invariant.clients (crashed_next c.args.instance.now.requests c.args.clients.now c.loop-i.i c.index-requests-i.result r short long is at));
      items = behind (Crash c.args.node c.args.instance.now.term) c.args.book.now.items (all_crashed_items c.args.node c.args.instance.now.term (take c.loop-i.i c.args.instance.now.requests) c.args.clients.now) (crashed_items c.args.node c.args.instance.now.term c.index-requests-i.result r) (all_crashed_items c.args.node c.args.instance.now.term (take (c.loop-i.i + 1) c.args.instance.now.requests) c.args.clients.now) c.loop-i.book.items c.lose.new.book.items c.loop-i.invariant.items told next;
    }

pub returns-clause-clients : goal.returns-clause-clients
returns-clause-clients c =
    let enough : min (length c.args.clients.now) (length c.args.instance.now.requests) ≤ c.loop-i.i = grind arith in
    c.loop-i.invariant.clients ∙ all_crashed c.args.instance.now.requests c.args.clients.now c.loop-i.i enough

pub returns-clause-items : goal.returns-clause-items
returns-clause-items c =
    let enough : min (length c.args.clients.now) (length c.args.instance.now.requests) ≤ c.loop-i.i = grind arith in
    rw (← all_told c.args.node c.args.instance.now.term c.args.instance.now.requests c.args.clients.now c.loop-i.i enough) c.loop-i.invariant.items
