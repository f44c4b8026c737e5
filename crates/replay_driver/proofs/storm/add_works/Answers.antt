use Rattle.std.proofs.Common.{arith}
use Rattle.replay_driver.specs.Storm.{works}
use Rattle.replay_driver.proofs.Storming.{adds_more, none_yet}
use Rattle.replay_driver.proofs.storm.add_works.Goals as goal

pub loop-transaction-init : goal.loop-transaction-init
loop-transaction-init c = record { lines = none_yet _ (works c.args.node) c.args.first; within = omega arith; few = omega arith }

pub loop-transaction-preserved : goal.loop-transaction-preserved
loop-transaction-preserved c = record {
  lines = adds_more _ _ _ (works c.args.node) _ _ (omega arith) c.loop-transaction.invariant.lines c.in_ok-add_work.ensures.lines;
  within = omega arith;
  few = omega (arith, c.loop-transaction.invariant.few, c.in_ok-add_work.ensures.few);
}
