use Rattle.std.proofs.Common.{◌≡◌, length}
use Rattle.history_reading.specs.Templates.{digits_from}
use Rattle.history_reading.proofs.reading.templates.exact.digits.Given as goal

abbrev pub invariant-loop-rest : goal.invariant-loop-rest
invariant-loop-rest l = digits_from l.number l.rest ≡ digits_from l.fn.number l.bytes

abbrev pub decreases-loop-rest : goal.decreases-loop-rest
decreases-loop-rest l = length l.rest
