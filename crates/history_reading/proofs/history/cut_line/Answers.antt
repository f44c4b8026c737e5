use Rattle.std.proofs.Common.{◌+◌, sym}
use Rattle.std.proofs.lemmas.List.{take_rest}
use Rattle.history_reading.proofs.LineLemmas.{lines-front, lines-last}
use Rattle.history_reading.proofs.history.cut_line.Goals as goal

pub returns-in-Some-clause-lines : goal.returns-in-Some-clause-lines
returns-in-Some-clause-lines c = rw (take_rest c.args.bytes.now (c.in-Some.end + 1)) (lines-front c.args.bytes.now c.in-Some.end (sym c.in-Some.ensures.place))

pub returns-in-None-clause-lines : goal.returns-in-None-clause-lines
returns-in-None-clause-lines c = lines-last c.args.bytes.now (sym c.in-None.ensures.place)
