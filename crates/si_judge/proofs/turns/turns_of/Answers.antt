use Rattle.si_judge.proofs.Names.{◌≡◌, ◌<◌, ℕ, Some, length, slice_get, refl, subst, arith, slice_get_read, IsTold}
use Rattle.si_judge.proofs.TurnLemmas.{turns_none, turn_more}
use Rattle.si_judge.proofs.turns.turns_of.Goals as goal

pub loop-place-init : goal.loop-place-init
loop-place-init c = record { each = c.in_ok-turns.ensures; kept = λ on. turns_none _ _ _ }

pub loop-place-preserved : goal.loop-place-preserved
loop-place-preserved c =
    let items = c.args.items.now in
    let place = c.loop-place.place in
    let less : place < length items = omega (arith, c.loop-place-test.true) in
    let here : slice_get items place ≡ Some c.index-items-place.result = slice_get_read items (length items) place c.index-items-place.result refl less c.index-items-place.is in
    turn_more items place c.index-items-place.result c.args.commits.now c.loop-place.turns c.pass.new.self here c.pass.ensures.each c.pass.ensures.turn c.loop-place.invariant

pub returns : goal.returns
returns c =
    let items = c.args.items.now in
    let end : c.loop-place.place ≡ length items = omega (arith, c.loop-place-test.false, c.loop-place.auto.place-end) in
    subst (λ (n : ℕ). IsTold items n c.args.commits.now c.loop-place.turns) end c.loop-place.invariant
