use Rattle.std.proofs.Common.{refl}
use Rattle.log_refinement.proofs.worked.denials_count_where_they_are_due.Goals as goal

pub returns : goal.returns
returns c = record { due = refl; early = refl; elsewhere = refl; other = refl }
