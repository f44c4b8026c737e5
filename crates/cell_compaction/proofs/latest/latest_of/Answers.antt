use Rattle.std.proofs.Common.{◌≡◌, suc, ◌-◌, ◌<◌, ◌≤◌, length, map, drop, sym, ap, subst, ◌∙◌, arith}
use Rattle.std.proofs.lemmas.List.{get_or_default}
use Rattle.cell_store.specs.declared.at_rest.Row.{Row}
use Rattle.cell_store.specs.AtRest.{row_of}
use Rattle.cell_compaction.specs.Rest.{commit_below, with_row, latest_in}
use Rattle.cell_compaction.proofs.KeyRows.{nothing_behind, walk_ends, walk_goes_on, at_most, lower_other, same_other}
use Rattle.cell_compaction.proofs.latest.latest_of.Goals as goal

pub loop-i-init : goal.loop-i-init
loop-i-init c = sym (nothing_behind c.args.start c.args.key (drop c.end_of-i.result c.args.rows.now) c.end_of-i.ensures.above)

pub returns-then-ne : goal.returns-then-ne
returns-then-ne c =
    let n = c.loop-i.i in
    let next : suc (n - 1) ≡ n = omega arith in
    let before : n - 1 < c.end_of-i.result = omega arith in
    let within : n - 1 < length c.args.rows.now = omega (arith, c.end_of-i.ensures.within) in
    let most : c.index-rows-i.result.key ≤ c.args.key = at_most c.args.rows.now c.end_of-i.result (n - 1) c.args.key c.index-rows-i.result c.end_of-i.ensures.upto before within c.index-rows-i.is in
    let at = ap (λ (y : Row). y.key) c.index-rows-i.is in
    let low : c.index-rows-i.result.key < c.args.key = subst (λ j. j < c.args.key) (sym at) (lower_other _ c.args.key c.ne.result c.ne.ensures c.if-ne.true (subst (λ j. j ≤ c.args.key) at most)) in
    c.loop-i.invariant ∙ ap (λ m. latest_in (map row_of (drop m c.args.rows.now)) c.args.start c.args.key) (sym next) ∙ walk_ends c.args.rows.now (n - 1) c.args.start c.args.key c.index-rows-i.result c.requires within c.index-rows-i.is low

pub loop-i-preserved : goal.loop-i-preserved
loop-i-preserved c =
    let n = c.loop-i.i in
    let next : suc (n - 1) ≡ n = omega arith in
    let within : n - 1 < length c.args.rows.now = omega (arith, c.end_of-i.ensures.within) in
    let r = c.index-rows-i-in-loop-i.result in
    let own : r.key ≡ c.args.key = ap (λ (y : Row). y.key) (c.index-rows-i-in-loop-i.is ∙ get_or_default c.args.rows.now (n - 1) r c.index-rows-i.result within) ∙ same_other _ c.args.key c.ne.result c.ne.ensures c.if-ne.false in
    c.with-latest.ensures ∙ ap (λ latest. with_row r.key (row_of r) (commit_below c.args.start r.cell.shadow) latest) (c.loop-i.invariant ∙ ap (λ m. latest_in (map row_of (drop m c.args.rows.now)) c.args.start c.args.key) (sym next)) ∙ walk_goes_on c.args.rows.now (n - 1) c.args.start c.args.key r within c.index-rows-i-in-loop-i.is own
