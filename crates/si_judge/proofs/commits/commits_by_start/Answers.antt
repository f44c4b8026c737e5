use Rattle.si_judge.proofs.Names.{◌≡◌, ◌<◌, Some, length, slice_get, refl, arith, slice_get_read}
use Rattle.si_judge.proofs.CommitLemmas.{commits_empty, commits_more}
use Rattle.si_judge.proofs.commits.commits_by_start.Goals as goal

pub loop-place-init : goal.loop-place-init
loop-place-init c = commits_empty c.args.items.now c.new-commits.result c.new-commits.ensures.empty

pub loop-place-preserved : goal.loop-place-preserved
loop-place-preserved c =
    let items = c.args.items.now in
    let place = c.loop-place.place in
    let less : place < length items = omega (arith, c.loop-place-test.true) in
    let here : slice_get items place ≡ Some c.index-items-place.result = slice_get_read items (length items) place c.index-items-place.result refl less c.index-items-place.is in
    commits_more items c.requires place c.index-items-place.result c.loop-place.commits c.note_commit.new.commits here c.loop-place.invariant c.in_ok-note_commit.ensures
