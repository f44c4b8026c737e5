use Rattle.trace_rules.proofs.Serial.{wholes}
use Rattle.trace_rules.proofs.cycles.serial_points_order_wholes.Goals as goal

pub returns : goal.returns
returns c = wholes
