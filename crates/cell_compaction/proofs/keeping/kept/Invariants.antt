use Rattle.std.proofs.Common.{◌≡◌, ◌++◌, map, drop}
use Rattle.cell_store.specs.AtRest.{row_of}
use Rattle.cell_compaction.specs.Rest.{kept_of, latest_in}
use Rattle.cell_compaction.proofs.keeping.kept.Given as goal

abbrev pub invariant-loop-row : goal.invariant-loop-row
invariant-loop-row l =
    (l.found.latest ≡ latest_in (map row_of l.rows) l.water l.found.key) × (map row_of l.kept.items ++ kept_of (map row_of l.rows) l.water (map row_of (drop l.row-index l.rows)) ≡ kept_of (map row_of l.rows) l.water (map row_of l.rows))
