use Rattle.isolation_rules.proofs.WorkedSkew.{skew_isolated, skew_not_serial, one_serial}
use Rattle.isolation_rules.proofs.worked.write_skew_is_not_serial.Goals as goal

pub returns : goal.returns
returns c = record { isolated = skew_isolated; both = skew_not_serial; one = one_serial }
