use Rattle.omid_view.proofs.WordLemmas.{brief_known}
use Rattle.omid_view.proofs.command.brief_of.Goals as goal

pub returns-clause-known : goal.returns-clause-known
returns-clause-known c = brief_known c.args.from.now c.args.to.now c.picture_of.result c.picture_of.ensures
