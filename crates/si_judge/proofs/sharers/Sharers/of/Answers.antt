use Rattle.si_judge.proofs.Names.{◌<◌, List, length, take, Bool, sym, subst, arith, Item, HasKeys, HasSharers}
use Rattle.si_judge.proofs.PushLemmas.{one_more}
use Rattle.si_judge.proofs.sharers.Sharers.of.Goals as goal

pub loop-item-preserved : goal.loop-item-preserved
loop-item-preserved c =
    let items = c.args.items.now in
    let i = c.loop-item.item-index in
    let less : i < length items = omega (arith, c.loop-item-test.true) in
    subst (λ (part : List Item). HasSharers items c.args.start part c.enter.new.starts) (one_more items i c.item-item.result less c.item-item.is)
    (c.in_ok-enter.ensures items (take i items) c.args.start (subst (λ (keys : List Bool). HasKeys items c.args.start keys) (sym c.deref.ensures.value) c.in_ok-keys.ensures.keys) c.loop-item.invariant)
