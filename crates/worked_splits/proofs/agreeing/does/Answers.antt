use Rattle.split_parts.specs.Parts.{seen}
use Rattle.worked_splits.proofs.StandingLemmas.{stands_after}
use Rattle.worked_splits.proofs.agreeing.does.Goals as goal

pub returns-in-Ok : goal.returns-in-Ok
returns-in-Ok c = stands_after 0 0 (seen c.args.lent.now) (seen c.act.new.lent) _ c.in-Ok.acted c.requires.stands (c.in-Ok.ensures.acted c.requires.stands.leases)
