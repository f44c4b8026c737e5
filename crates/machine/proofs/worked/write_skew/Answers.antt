use Rattle.machine.proofs.WorkedReading.{skew_row, plain_skew_row}
use Rattle.machine.proofs.worked.write_skew.Goals as goal

pub returns-clause-strict : goal.returns-clause-strict
returns-clause-strict c = skew_row

pub returns-clause-plain : goal.returns-clause-plain
returns-clause-plain c = plain_skew_row
