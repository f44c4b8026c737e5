use Rattle.history_reading.proofs.RoundTrip.{one_text}
use Rattle.history_reading.proofs.laws.texts_differ.Goals as goal

pub returns : goal.returns
returns c = one_text
