use Rattle.std.proofs.Common.{◌≡◌, ◌+◌, ◌<◌, ◌∷◌, [], ◌++◌, length, sym, ap, ◌∙◌, arith}
use Rattle.std.specs.Prelude.{map, drop, if◌then◌else◌}
use Rattle.cell_store.specs.AtRest.{row_of}
use Rattle.cell_compaction.specs.Rest.{stays, stays_by, kept_of, latest_in}
use Rattle.cell_compaction.proofs.KeepingRows.{kept_more, kept_whole}
use Rattle.cell_compaction.proofs.keeping.kept.Goals as goal

pub loop-row-preserved : goal.loop-row-preserved
loop-row-preserved c =
    let all = map row_of c.args.rows.now in
    let x = c.row-item.result in
    let i = c.loop-row.row-index in
    let kept = c.loop-row.kept.items in
    let within : i < length c.args.rows.now = omega (arith, c.loop-row-test.true) in
    let is_stays : c.stays.result ≡ stays all c.args.water (row_of x) = c.stays.ensures ∙ ap (stays_by c.args.water (row_of x) x.cell.shadow) c.moved-found.ensures.latest in (
      c.moved-found.ensures.latest ∙ ap (latest_in all c.args.water) (sym c.moved-found.ensures.key),
      ap (λ ys. map row_of ys ++ kept_of all c.args.water (map row_of (drop (i + 1) c.args.rows.now))) (c.in_ok-push_if.ensures ∙ ap (λ b. if b then kept ++ x ∷ [] else kept) is_stays)
          ∙ kept_more all c.args.water c.args.rows.now kept i x within c.row-item.is ∙ c.loop-row.invariant.1,
    )

pub returns : goal.returns
returns c = kept_whole (map row_of c.args.rows.now) c.args.water c.args.rows.now c.loop-row.kept.items c.loop-row.row-index (omega (arith, c.loop-row-test.false)) c.loop-row.invariant.1
