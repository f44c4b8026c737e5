use Rattle.si_judge.proofs.Names.{◌≡◌, ◌<◌, Some, length, slice_get, refl, arith, slice_get_read}
use Rattle.si_judge.proofs.OverlapIndexLemmas.{writes_more}
use Rattle.si_judge.proofs.overlap_index.committed_writes.Goals as goal

pub loop-item-preserved : goal.loop-item-preserved
loop-item-preserved c =
    let items = c.args.items.now in
    let i = c.loop-item.item-index in
    let less : i < length items = omega (arith, c.loop-item-test.true) in
    let here : slice_get items i ≡ Some c.item-item.result = slice_get_read items (length items) i c.item-item.result refl less c.item-item.is in
    writes_more items i c.item-item.result c.args.commits.now c.loop-item.written c.note_write.new.written here c.loop-item.invariant c.in_ok-note_write.ensures.kept c.in_ok-note_write.ensures.noted
