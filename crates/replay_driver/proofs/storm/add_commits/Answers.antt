use Rattle.std.proofs.Common.{arith}
use Rattle.replay_driver.specs.Storm.{commits}
use Rattle.replay_driver.proofs.Storming.{adds_one_more, not_one_yet, one_line}
use Rattle.replay_driver.proofs.storm.add_commits.Goals as goal

pub loop-transaction-init : goal.loop-transaction-init
loop-transaction-init c = record { lines = not_one_yet _ (commits c.args.node) c.args.first; within = omega arith; few = omega arith }

pub loop-transaction-preserved : goal.loop-transaction-preserved
loop-transaction-preserved c = record {
  lines = adds_one_more _ _ _ (commits c.args.node) _ _ (omega arith) c.loop-transaction.invariant.lines
      (one_line _ _ _ _ _ _ c.session_for.ensures c.commit.ensures c.in_ok-add.ensures.lines);
  within = omega arith;
  few = omega (arith, c.loop-transaction.invariant.few, c.in_ok-add.ensures.len);
}
