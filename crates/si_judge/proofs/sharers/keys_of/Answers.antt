use Rattle.si_judge.proofs.Names.{◌≡◌, ◌<◌, ◌+◌, ◌++◌, ◌||◌, Bool, false, List, length, slice_index_or, take, drop, sym}
use Rattle.si_judge.proofs.Names.{subst, ap, ◌∙◌, arith, take_at, Item, writes, HasKeys}
use Rattle.si_judge.proofs.PushLemmas.{one_more}
use Rattle.si_judge.proofs.SharerLemmas.{more_keys}
use Rattle.si_judge.proofs.sharers.keys_of.Goals as goal

pub loop-item-preserved : goal.loop-item-preserved
loop-item-preserved c =
    let items = c.args.items.now in
    let i = c.loop-item.item-index in
    let old = c.loop-item.keys in
    let new = c.mark_key.new.keys in
    let less : i < length items = omega (arith, c.loop-item-test.true) in
    let whole : take old.len (new ++ drop (length new) old.items) ≡ new = take_at new (drop (length new) old.items) old.len (omega (arith, c.mark_key.ensures.each, c.loop-item.invariant.each, old.ok)) in
    subst (λ (keys : List Bool). HasKeys (take (i + 1) items) c.args.start keys) (sym whole)
    (subst (λ (part : List Item). HasKeys part c.args.start new) (one_more items i c.item-item.result less c.item-item.is)
    (more_keys (take i items) c.item-item.result c.args.start old.items new c.mark_key.ensures.each (λ k within. c.mark_key.ensures.marked k within ∙ ap (λ (keys : List Bool). slice_index_or keys k false || writes c.args.start k c.item-item.result) c.deref_mut.ensures.value) c.loop-item.invariant))
