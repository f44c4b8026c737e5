use Rattle.std.proofs.Common.{List, take, refl, subst, arith}
use Rattle.std.proofs.lemmas.List.{take_all}
use Rattle.history_book.specs.declared.item.Item.{Item}
use Rattle.read_sets.specs.Index.{IsIndexBut}
use Rattle.read_sets.proofs.CrossingLemmas.{one_more}
use Rattle.read_sets.proofs.IndexLemmas.{index_begun}
use Rattle.read_sets.proofs.index.Index.new.Goals as goal

pub loop-item-init : goal.loop-item-init
loop-item-init c = index_begun c.args.items.now c.in_ok-placed.placed c.new-written.result c.new-commits.result _ refl c.in_ok-placed.ensures c.new-written.ensures.empty

pub loop-item-preserved : goal.loop-item-preserved
loop-item-preserved c =
    let items = c.args.items.now in
    let i = c.loop-item.item-index in
    subst (λ (part : List Item). IsIndexBut items part c.pass.new.self) (one_more items i c.item-item.result (omega (arith, c.loop-item-test.true)) c.item-item.is) (c.in_ok-pass.ensures items (take i items) c.loop-item.invariant)

pub returns : goal.returns
returns c =
    let items = c.args.items.now in
    subst (λ (part : List Item). IsIndexBut items part c.loop-item.index) (take_all c.loop-item.item-index items (omega (arith, c.loop-item-test.false))) c.loop-item.invariant
