use Rattle.si_judge.proofs.IndexLemmas.{versions_empty}
use Rattle.si_judge.proofs.versions.versions_of.Goals as goal

pub loop-place-init : goal.loop-place-init
loop-place-init c = versions_empty c.args.items.now c.new-versions.result c.new-versions.ensures.empty
