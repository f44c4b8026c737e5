use Rattle.std.proofs.Common.{length}
use Rattle.line_reasons.proofs.broken.+broken.Given as goal

abbrev pub decreases-broken : goal.decreases-broken
decreases-broken l = length l.row.now
