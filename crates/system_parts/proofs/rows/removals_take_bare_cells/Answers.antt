use Rattle.system_parts.proofs.RowLaws.{looked-without_other, ordered-without}
use Rattle.system_parts.proofs.RowVersions.{without_bare_gone, without_bare_shadowed, without_bare_absent}
use Rattle.system_parts.proofs.rows.removals_take_bare_cells.Goals as goal

pub returns : goal.returns
returns c = record { bare = without_bare_gone; stays = without_bare_shadowed; absent = without_bare_absent; others = looked-without_other; ordered = ordered-without }
