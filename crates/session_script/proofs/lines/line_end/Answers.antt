use Rattle.std.proofs.Common.{◌∙◌}
use Rattle.session_script.proofs.LineLemmas.{first_feed}
use Rattle.session_script.proofs.lines.line_end.Goals as goal

pub returns-clause-place : goal.returns-clause-place
returns-clause-place c = c.unwrap_or.ensures ∙ first_feed c.args.bytes.now c.memchr.result c.memchr.ensures
