use Rattle.std.proofs.Common.{List, take, subst, arith}
use Rattle.std.proofs.lemmas.List.{take_all}
use Rattle.history_book.specs.declared.item.Item.{Item}
use Rattle.read_sets.specs.Index.{HasPlaced}
use Rattle.read_sets.proofs.CrossingLemmas.{one_more}
use Rattle.read_sets.proofs.IndexLemmas.{placed_none}
use Rattle.read_sets.proofs.index.placed_commits.Goals as goal

pub loop-item-init : goal.loop-item-init
loop-item-init c = placed_none c.new-placed.result

pub loop-item-preserved : goal.loop-item-preserved
loop-item-preserved c =
    let items = c.args.items.now in
    let i = c.loop-item.item-index in
    subst (λ (part : List Item). HasPlaced part c.note_placed.new.placed) (one_more items i c.item-item.result (omega (arith, c.loop-item-test.true)) c.item-item.is) (c.in_ok-note_placed.ensures (take i items) c.loop-item.invariant)

pub returns : goal.returns
returns c =
    let items = c.args.items.now in
    subst (λ (part : List Item). HasPlaced part c.loop-item.placed) (take_all c.loop-item.item-index items (omega (arith, c.loop-item-test.false))) c.loop-item.invariant
