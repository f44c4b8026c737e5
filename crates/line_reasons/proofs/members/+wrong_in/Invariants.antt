use Rattle.std.proofs.Common.{length}
use Rattle.line_reasons.proofs.members.+wrong_in.Given as goal

abbrev pub decreases-wrong_in : goal.decreases-wrong_in
decreases-wrong_in l = length l.row.now
