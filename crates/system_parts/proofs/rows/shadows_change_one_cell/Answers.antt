use Rattle.system_parts.proofs.RowLaws.{looked-shadow_same, looked-shadow_other, ordered-shadow}
use Rattle.system_parts.proofs.rows.shadows_change_one_cell.Goals as goal

pub returns : goal.returns
returns c = record { same = looked-shadow_same; others = looked-shadow_other; ordered = ordered-shadow }
