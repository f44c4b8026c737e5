use Rattle.system_parts.proofs.RowLaws.{looked-put_bare, looked-put_other, ordered-put}
use Rattle.system_parts.proofs.rows.puts_change_one_cell.Goals as goal

pub returns : goal.returns
returns c = record { same = looked-put_bare; others = looked-put_other; ordered = ordered-put }
