use Rattle.std.proofs.Common.{◌≡◌, sym, ap, subst, ◌∙◌}
use Rattle.std.specs.Prelude.{map}
use Rattle.system_parts.specs.Rows.{AreOrdered}
use Rattle.cell_store.specs.AtRest.{row_of}
use Rattle.cell_compaction.specs.Rest.{with_commits}
use Rattle.cell_compaction.proofs.MemberRows.{filled_ordered}
use Rattle.cell_compaction.proofs.KeptRows.{kept_ordered}
use Rattle.cell_compaction.proofs.archive.Archive.compact.Goals as goal

pub kept-requires : goal.kept-requires
kept-requires c =
    let pairs = c.args.table.now.pairs in
    let are : map row_of c.deref-2.result.now ≡ with_commits pairs c.args.cells.rows = ap (map row_of) c.deref-2.ensures.value ∙ c.in_ok-rows.ensures ∙ ap (λ rs. with_commits pairs (map row_of rs)) c.deref.ensures.value ∙ ap (with_commits pairs) c.in_ok-into_rows.ensures.rows in
    subst AreOrdered (sym are) (filled_ordered pairs c.args.cells.rows c.in_ok-into_rows.ensures.ordered)

pub invariant_of-result : goal.invariant_of-result
invariant_of-result c =
    let pairs = c.args.table.now.pairs in
    let all = map row_of c.deref-2.result.now in
    let are : all ≡ with_commits pairs c.args.cells.rows = ap (map row_of) c.deref-2.ensures.value ∙ c.in_ok-rows.ensures ∙ ap (λ rs. with_commits pairs (map row_of rs)) c.deref.ensures.value ∙ ap (with_commits pairs) c.in_ok-into_rows.ensures.rows in
    subst AreOrdered (sym c.in_ok-kept.ensures) (kept_ordered all c.args.water all (subst AreOrdered (sym are) (filled_ordered pairs c.args.cells.rows c.in_ok-into_rows.ensures.ordered)))
