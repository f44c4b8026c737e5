use Rattle.std.proofs.Common.{◌≡◌, map, take}
use Rattle.cell_store.specs.AtRest.{row_of}
use Rattle.cell_compaction.specs.Rest.{with_commits}
use Rattle.cell_compaction.proofs.keeping.with_commits.Given as goal

abbrev pub invariant-loop-row : goal.invariant-loop-row
invariant-loop-row l = map row_of l.filled.items ≡ with_commits l.table.pairs (map row_of (take l.row-index l.rows))
