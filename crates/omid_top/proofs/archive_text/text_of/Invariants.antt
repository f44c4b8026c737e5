use Rattle.std.proofs.Common.{◌≡◌}
use Rattle.cell_compaction.specs.Rest.{read_from}
use Rattle.omid_top.specs.Compaction.{found_lines}
use Rattle.omid_top.proofs.archive_text.text_of.Given as goal

abbrev pub invariant-loop-number : goal.invariant-loop-number
invariant-loop-number l = l.text.items ≡ found_lines (read_from l.archive.rows l.water) l.number
