use Rattle.history_reading.proofs.ReadingLemmas.{value_at-is}
use Rattle.history_reading.proofs.reading.words.value.Goals as goal

pub returns : goal.returns
returns c = value_at-is c.args.bytes.now c.new.result c.new.ensures.valid c.new.ensures.value
