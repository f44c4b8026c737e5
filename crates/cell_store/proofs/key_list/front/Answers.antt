use Rattle.std.proofs.Common.{◌≡◌, ◌+◌, ◌-◌, ◌<◌, length, reverse, sym, ap, subst, ◌∙◌, arith}
use Rattle.std.proofs.lemmas.List.{take_rest}
use Rattle.cell_store.proofs.Fronts.{IsFrontBehind, front_ends, front_goes_on, front_is_whole}
use Rattle.cell_store.proofs.key_list.front.Goals as goal

pub returns-then-is_below : goal.returns-then-is_below
returns-then-is_below c =
    let n = c.loop-first.first in
    let next : n ≡ n - 1 + 1 = omega arith in
    let within : n - 1 < length c.args.cells.now = omega arith in
    let behind = subst (IsFrontBehind c.args.start c.args.cells.now) next c.loop-first.invariant in
    ap reverse (take_rest c.args.cells.now (n - 1)) ∙ front_ends c.args.start (n - 1) c.args.cells.now c.index-cells-first.result within behind (sym c.is_below.ensures ∙ c.if-is_below.true)

pub loop-first-preserved : goal.loop-first-preserved
loop-first-preserved c =
    let n = c.loop-first.first in
    let next : n ≡ n - 1 + 1 = omega arith in
    let within : n - 1 < length c.args.cells.now = omega arith in
    let behind = subst (IsFrontBehind c.args.start c.args.cells.now) next c.loop-first.invariant in
    front_goes_on c.args.start (n - 1) c.args.cells.now c.index-cells-first.result within behind (sym c.is_below.ensures ∙ c.if-is_below.false)

pub returns : goal.returns
returns c =
    let none : c.loop-first.first ≡ 0 = omega arith in
    front_is_whole c.args.start c.args.cells.now (subst (IsFrontBehind c.args.start c.args.cells.now) none c.loop-first.invariant)
