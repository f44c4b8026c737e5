use Rattle.std.proofs.Common.{List, [], ◌∷◌, ◌++◌, ap, ◌∙◌, append_assoc}
use Rattle.history_book.specs.declared.item.Actor.TheVariants.{Session}
use Rattle.history_book.specs.declared.item.StoreStep.TheVariants.{Fetch}
use Rattle.history_book.specs.declared.item.Item.{Item}
use Rattle.history_book.specs.declared.item.Item.TheVariants.{Step}
use Rattle.system_parts.specs.KeyRead.{next_of}
use Rattle.system_parts.specs.Recalled.{Remembering, recalled_over}
use Rattle.machine.specs.Events.Fetch.{read_items}
use Rattle.event_parts.proofs.Recalls.{start_comes}
use Rattle.session_events.proofs.fetching.read_begun.Goals as goal

pub returns-clause-items : goal.returns-clause-items
returns-clause-items c =
    let x : Remembering = recalled_over c.args.setup.now.direct c.args.key c.args.start c.args.epoch c.args.front.cells.items c.args.client.now.cache in
    let comes = (start_comes c.args.setup.now.direct c.args.client.now.cache c.args.key c.args.start c.args.epoch c.args.front.cells.items c.start-run.result.0 c.start-run.result.1 c.start-run.ensures.run c.start-run.ensures.next).0 in
    let told : List Item = read_items c.args.session c.args.start c.args.key x.0 in
    c.tell_read.ensures.items x.0 (c.reads-then.ensures.next ∙ ap (λ (y : Remembering). next_of y.0) comes)
    ∙ ap (λ (b : List Item). b ++ told) c.append_in_room.ensures.items
    ∙ append_assoc c.args.book.now.items (Step (Session c.args.session) (Fetch c.args.key c.args.front.versions) ∷ []) told
