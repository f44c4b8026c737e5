use Rattle.history_reading.proofs.LineLemmas.{first_feed-is}
use Rattle.history_reading.proofs.history.line_end.Goals as goal

pub returns-clause-place : goal.returns-clause-place
returns-clause-place c = first_feed-is c.args.bytes.now c.memchr.result c.memchr.ensures
