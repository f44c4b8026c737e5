use Rattle.std.proofs.Common.{◌+◌, arith}
use Rattle.std.proofs.lemmas.List.{take_rest}
use Rattle.session_script.proofs.LineLemmas.{lines-front, lines-last}
use Rattle.session_script.proofs.lines.split_line.Goals as goal

pub returns-then-end-bytes-clause-lines : goal.returns-then-end-bytes-clause-lines
returns-then-end-bytes-clause-lines c =
    rw (c.without_return.ensures, take_rest c.args.bytes.now (c.line_end-end.result + 1))
    (lines-front c.args.bytes.now c.line_end-end.result c.line_end-end.ensures.place (omega arith))

pub returns-else-end-bytes-clause-lines : goal.returns-else-end-bytes-clause-lines
returns-else-end-bytes-clause-lines c =
    rw (take_rest c.args.bytes.now c.line_end-end.result)
    (lines-last c.args.bytes.now c.line_end-end.result c.line_end-end.ensures.place (omega arith) c.line_end-end.ensures.within c.requires)
