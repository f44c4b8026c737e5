use Rattle.std.proofs.Common.{sym}
use Rattle.si_judge.proofs.AskIndexLemmas.{ask_at}
use Rattle.si_judge.proofs.second_begin.LastAsks.of.Goals as goal

pub returns : goal.returns
returns c = λ h less asked. sym (ask_at h c.args.place c.args.session c.place_of.result c.unwrap_or.result c.args.self.now.places less asked c.place_of.ensures.place c.place_of.ensures.range c.unwrap_or.ensures)
