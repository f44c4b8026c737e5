use Rattle.std.proofs.Common.{◌≡◌, map, drop}
use Rattle.cell_store.specs.AtRest.{row_of}
use Rattle.cell_compaction.specs.Rest.{latest_in}
use Rattle.cell_compaction.proofs.latest.latest_of.Given as goal

abbrev pub invariant-loop-i : goal.invariant-loop-i
invariant-loop-i l = l.latest ≡ latest_in (map row_of (drop l.i l.rows)) l.start l.key
