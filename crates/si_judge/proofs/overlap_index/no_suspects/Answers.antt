use Rattle.std.proofs.Common.{arith}
use Rattle.si_judge.proofs.overlap_index.no_suspects.Goals as goal

pub returns : goal.returns
returns c = record { each = omega (arith, c.in_ok-marks.ensures); unmarked = λ i off. c.requires i }
