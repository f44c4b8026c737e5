use Rattle.std.proofs.Common.{◌∙◌, ◌≡◌, ◌+◌, ◌-◌, arith, sym, ap, drop, get_or}
use Rattle.history_signs.specs.Bars.{goes_to, own_to}
use Rattle.history_signs.proofs.BarLemmas.{own_more, own_past}
use Rattle.history_signs.proofs.bar.own_to.Goals as goal

pub loop-left-preserved : goal.loop-left-preserved
loop-left-preserved c =
    let l = c.loop-left in
    let items = c.args.items.now in
    let x = c.index-items-place.result in
    let on : c.goes_to-reached.result ≡ goes_to c.args.session c.args.start (get_or items l.place x) l.place l.reached =
    c.goes_to-reached.ensures.bar ∙ ap (λ it. goes_to c.args.session c.args.start it l.place l.reached) c.index-items-place.is in
    record {
      rest = ap (λ bar. own_to (l.left - 1) c.args.session c.args.start bar (l.place + 1) (drop (l.place + 1) items)) on
          ∙ (own_more l.left c.args.session c.args.start l.reached l.place items x c.loop-left-test.true c.if-place-items.true ∙ l.invariant.rest);
      within = omega (arith, c.if-place-items.true);
      reached = λ before. omega (arith, c.goes_to-reached.ensures.within (l.invariant.reached before));
    }

pub returns-else-place-items-clause-bar : goal.returns-else-place-items-clause-bar
returns-else-place-items-clause-bar c =
    let l = c.loop-left in
    sym (own_past l.left c.args.session c.args.start l.reached l.place c.args.items.now c.if-place-items.false) ∙ l.invariant.rest
