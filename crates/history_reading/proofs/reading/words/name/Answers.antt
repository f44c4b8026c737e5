use Rattle.history_reading.proofs.ReadingLemmas.{name_at-is}
use Rattle.history_reading.proofs.reading.words.name.Goals as goal

pub returns : goal.returns
returns c = name_at-is c.args.bytes.now c.new.result c.new.ensures.valid c.new.ensures.value
