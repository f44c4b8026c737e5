use Rattle.trace_rules.proofs.Serial.{serialises}
use Rattle.trace_rules.proofs.cycles.rising_places_serialise.Goals as goal

pub returns : goal.returns
returns c = serialises
