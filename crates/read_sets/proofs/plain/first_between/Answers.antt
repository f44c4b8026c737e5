use Rattle.std.proofs.Common.{◌≡◌, ◌<◌, Some, length, slice_get, refl, arith}
use Rattle.std.proofs.lemmas.Option.{slice_get_read}
use Rattle.read_sets.proofs.WalkLemmas.{crossed_here, uncrossed_more, uncrossed_all}
use Rattle.read_sets.proofs.plain.first_between.Goals as goal

pub returns-then-crosses-clause-first : goal.returns-then-crosses-clause-first
returns-then-crosses-clause-first c =
    let items = c.args.items.now in
    let place = c.loop-place.place in
    let less : place < length items = omega (arith, c.loop-place-test.true) in
    let here : slice_get items place ≡ Some c.index-items-place.result = slice_get_read items (length items) place c.index-items-place.result refl less c.index-items-place.is in
    (crossed_here items c.args.start c.args.key c.args.last place c.index-items-place.result c.crosses.result here c.crosses.ensures c.if-crosses.true, λ q before. c.loop-place.invariant q before)

pub loop-place-preserved : goal.loop-place-preserved
loop-place-preserved c =
    let items = c.args.items.now in
    let place = c.loop-place.place in
    let less : place < length items = omega (arith, c.loop-place-test.true) in
    let here : slice_get items place ≡ Some c.index-items-place.result = slice_get_read items (length items) place c.index-items-place.result refl less c.index-items-place.is in
    uncrossed_more items c.args.start c.args.key c.args.last place c.index-items-place.result c.crosses.result here c.crosses.ensures c.if-crosses.false c.loop-place.invariant

pub returns-clause-first : goal.returns-clause-first
returns-clause-first c = uncrossed_all c.args.items.now c.args.start c.args.key c.args.last c.loop-place.place (omega (arith, c.loop-place-test.false)) c.loop-place.invariant
