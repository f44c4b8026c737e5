use Rattle.trace_rules.proofs.Serial.{reader_first, reader_of_none_first}
use Rattle.trace_rules.proofs.cycles.serial_readers_come_first.Goals as goal

pub returns : goal.returns
returns c = record { some = reader_first; none = reader_of_none_first }
