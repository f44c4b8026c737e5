use Rattle.si_judge.proofs.Names.{◌≡◌, ◌∙◌, ◌<◌, Some, length, take, slice_get, refl, sym, arith, false≢true}
use Rattle.si_judge.proofs.Names.{length-take-le, slice_get_read}
use Rattle.si_judge.proofs.StaleLemmas.{asks_next, none_next, stale_of, stale_within}
use Rattle.si_judge.proofs.second_begin.second_begin.Goals as goal

pub loop-second-preserved : goal.loop-second-preserved
loop-second-preserved c =
    let items = c.args.items.now in
    let second = c.loop-second.second in
    let less : second < length items = omega (arith, c.loop-second-test.true) in
    let one : slice_get items c.args.first ≡ Some c.index-items-first.result = slice_get_read items (length items) c.args.first c.index-items-first.result refl c.requires.within c.index-items-first.is in
    let other : slice_get items second ≡ Some c.index-items-second.result = slice_get_read items (length items) second c.index-items-second.result refl less c.index-items-second.is in
    let passed : slice_get items second ≡ Some c.index-items-second-in-loop-second.result = slice_get_read items (length items) second c.index-items-second-in-loop-second.result refl less c.index-items-second-in-loop-second.is in
    let stale = c.is_stale.ensures items less c.loop-second.invariant.asks in
    record {
      asks = asks_next items second c.index-items-second-in-loop-second.result c.pass.new.self.places passed (c.pass.ensures (take second items) (length-take-le second items (omega (arith, less))) c.loop-second.invariant.asks);
      none = none_next items c.args.first second c.loop-second.invariant.none (λ broken. false≢true (sym c.if-is_stale.false ∙ stale.1 (stale_of items c.args.first second c.index-items-first.result c.index-items-second.result one other broken)));
    }

pub returns-clause-second : goal.returns-clause-second
returns-clause-second c = λ j broken.
    let within = stale_within c.args.items.now c.args.first j broken in
    c.loop-second.invariant.none j (omega (arith, within, c.loop-second-test.false)) broken
