use Rattle.std.proofs.Common.{◌≡◌, length}
use Rattle.history_reading.specs.ReadWords.{number_from}
use Rattle.history_reading.proofs.reading.words.number.Given as goal

abbrev pub invariant-loop-rest : goal.invariant-loop-rest
invariant-loop-rest l = number_from l.number l.rest ≡ number_from 0 l.bytes

abbrev pub decreases-loop-rest : goal.decreases-loop-rest
decreases-loop-rest l = length l.rest
