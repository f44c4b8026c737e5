use Rattle.read_sets.proofs.SetLemmas.{triples_kept}
use Rattle.read_sets.proofs.IndexLemmas.{own_commits, one_entered, all_entered, keeps_both}
use Rattle.read_sets.proofs.index.enter_commits.Goals as goal

pub loop-pair-preserved : goal.loop-pair-preserved
loop-pair-preserved c = record {
  entered = one_entered (own_commits c.args.placed.now c.args.txn) c.loop-pair.pair-iterator c.next.new.self c.in-Some.pair.now c.args.key c.args.txn c.loop-pair.commits c.insert.new.self c.loop-pair.invariant.entered c.in-Some.ensures.steps c.in_ok-insert.ensures.updates;
  kept = keeps_both c.args.commits.now c.loop-pair.commits c.insert.new.self c.loop-pair.invariant.kept (triples_kept c.loop-pair.commits c.insert.new.self c.args.key c.in-Some.pair.now.1 c.args.txn c.in_ok-insert.ensures.updates);
}

pub returns-clause-entered : goal.returns-clause-entered
returns-clause-entered c = all_entered c.args.placed.now c.loop-pair.pair-iterator c.args.key c.args.txn c.loop-pair.commits c.in-None.ensures.steps.0 c.loop-pair.invariant.entered
