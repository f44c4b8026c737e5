use Rattle.trace_rules.proofs.Serial.{serial_graph}
use Rattle.trace_rules.proofs.cycles.serial_graph_orders_stamp.Goals as goal

pub returns : goal.returns
returns c = serial_graph
