use Rattle.std.proofs.Common.{arith}
use Rattle.replay_driver.specs.Storm.{group_actions}
use Rattle.replay_driver.proofs.Storming.{adds_next}
use Rattle.replay_driver.proofs.storm.storm_draft.Goals as goal

pub loop-group-preserved : goal.loop-group-preserved
loop-group-preserved c = record {
  lines = adds_next _ _ _ (group_actions c.args.transactions) _ c.loop-group.invariant.lines c.in_ok-add_group.ensures.lines;
  few = omega (arith, c.in_ok-add_group.ensures.few, c.loop-group.invariant.few);
}
