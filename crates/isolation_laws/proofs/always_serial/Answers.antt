use Rattle.isolation_laws.proofs.AlwaysHolds.{histories_are_serial}
use Rattle.isolation_laws.proofs.always_serial.Goals as goal

pub returns : goal.returns
returns c = histories_are_serial
