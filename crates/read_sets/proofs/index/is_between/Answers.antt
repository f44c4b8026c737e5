use Rattle.read_sets.proofs.IndexLemmas.{between_stamps, one_own, all_own}
use Rattle.read_sets.proofs.index.is_between.Goals as goal

pub loop-version-preserved : goal.loop-version-preserved
loop-version-preserved c = one_own (between_stamps c.args.commits.now c.args.key c.args.start c.args.last 18446744073709551615) c.loop-version.version-iterator c.next.new.self c.in-Some.version.now c.args.start c.loop-version.invariant c.in-Some.ensures.steps c.if-txn-start.false

pub returns : goal.returns
returns c = λ _. all_own c.args.commits.now c.loop-version.version-iterator c.args.key c.args.start c.args.last 18446744073709551615 c.in-None.ensures.steps.0 c.loop-version.invariant
